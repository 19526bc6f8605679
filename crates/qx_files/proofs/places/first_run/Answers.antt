use Rattle.std.proofs.Common.{◌<◌, ℕ, ◌∙◌, sym, arith, length-take, replicate}
use Rattle.std.proofs.lemmas.List.{get_or-take}
use Rattle.qx_files.proofs.PlaceLemmas.{lacking_bytes, zero_at}
use Rattle.qx_files.proofs.places.first_run.Goals as goal

pub returns-in-None-clause-bytes : goal.returns-in-None-clause-bytes
returns-in-None-clause-bytes c = λ n less.
    let count = c.min-count-2.result in
    let within : n < count = omega (arith, less, length-take count (replicate {A = ℕ} 512 0)) in
    get_or-take count (replicate 512 0) n 0 within ∙ (zero_at 512 n ∙ sym (lacking_bytes c.args.bytes.now c.args.places.now c.args.offset n (sym c.in-None.ensures.row) (omega (arith, within, c.min-count-2.ensures))))
