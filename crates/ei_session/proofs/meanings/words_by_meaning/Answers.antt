use Rattle.ei_session.proofs.AskedMeans.{release_asked, input_asked, mask_asked, callback_asked, finish_asked, context_asked, name_asked}
use Rattle.ei_session.proofs.ItemMeans.{item_asked, input_by}
use Rattle.ei_session.proofs.meanings.words_by_meaning.Goals as goal

pub returns : goal.returns
returns c = record {
  release = release_asked;
  input = input_asked;
  mask = mask_asked;
  callback = callback_asked;
  finish = finish_asked;
  context_type = context_asked;
  name = name_asked;
  item = item_asked;
  device_input = input_by;
}
