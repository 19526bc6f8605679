use Rattle.std.proofs.Common.{◌+◌, ◌-◌, ◌≤◌, ◌++◌, ap, append_assoc, length, ◌∙◌}
use Rattle.qx_machine.specs.Files.{get}
use Rattle.qx_files.proofs.DataLemmas.{get_more}
use Rattle.qx_files.proofs.data.Data.+push.Goals as goal

pub returns : goal.returns
returns t c =
    let bytes = c.args.self.now.bytes in
    let offset = c.args.offset in
    let n = length c.run-run.result.now in
    let le : n ≤ c.args.count = c.run-run.ensures.most in
    let rest = get bytes (offset + n) (c.args.count - n) in
    record {
      got =
          c.push-2.ensures.got
          ∙ (ap (λ l. l ++ rest) (c.push.ensures.behind ∙ ap (λ p. c.args.reply.now ++ p) c.run-run.ensures.got)
          ∙ (append_assoc c.args.reply.now (get bytes offset n) rest ∙ ap (λ l. c.args.reply.now ++ l) (get_more bytes offset n c.args.count le)));
    }
