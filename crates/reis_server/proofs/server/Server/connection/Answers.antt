use Rattle.reis_server.proofs.Knowing.{client_shown}
use Rattle.reis_server.proofs.server.Server.connection.Goals as goal

pub returns-in-None-clause-client : goal.returns-in-None-clause-client
returns-in-None-clause-client c = λ setup fed sent given h none.
    client_shown setup fed sent given _ _ _ c.self.view_is none (λ pieces times s. c.connection.ensures.client setup pieces times s) h
