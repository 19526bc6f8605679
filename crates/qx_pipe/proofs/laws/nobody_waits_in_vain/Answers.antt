use Rattle.qx_machine.specs.Waiting.{is_gone, offered, wanted}
use Rattle.qx_pipe.proofs.LawLemmas.{cancel_settled, is_settled, read_settled, release_settled, write_settled}
use Rattle.qx_pipe.proofs.laws.nobody_waits_in_vain.Goals as goal

pub returns : goal.returns
returns c = record {
  settle = is_settled wanted offered;
  read = read_settled wanted offered is_gone;
  write = write_settled wanted offered is_gone;
  cancel = cancel_settled wanted offered is_gone;
  release = release_settled wanted offered is_gone;
}
