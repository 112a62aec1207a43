use Rattle.ei_ends.proofs.EndedConnection.{is_answered, may_announce, is_ended}
use Rattle.ei_ends.proofs.worked.an_ended_connection.Goals as goal

pub returns : goal.returns
returns c = record {
  answered = is_answered.took_client;
  answered_joined = is_answered.joined;
  may_announce = may_announce;
  server_sent = is_ended.said_server;
  server_taken = is_ended.took_server;
  client_sent = is_ended.said_client;
  client_taken = is_ended.took_client;
  joined = is_ended.joined;
}
