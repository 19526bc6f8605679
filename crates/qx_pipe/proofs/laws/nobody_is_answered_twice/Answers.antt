use Rattle.qx_machine.specs.Waiting.{is_gone, offered, wanted}
use Rattle.qx_pipe.proofs.LawLemmas.{cancel_once, read_once, release_once, write_once}
use Rattle.qx_pipe.proofs.laws.nobody_is_answered_twice.Goals as goal

pub returns : goal.returns
returns c = record {
  read = read_once wanted offered is_gone;
  write = write_once wanted offered is_gone;
  cancel = cancel_once wanted offered is_gone;
  release = release_once wanted offered is_gone;
}
