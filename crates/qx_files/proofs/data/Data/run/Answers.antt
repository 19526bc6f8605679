use Rattle.std.proofs.Common.{◌≡◌, ◌+◌, ◌≤◌, ◌<◌, ℕ, ap, arith, get_or, length, sym, ◌∙◌}
use Rattle.qx_files.specs.Blocks.{Held}
use Rattle.qx_files.specs.inner.Places.{byte_at}
use Rattle.qx_files.proofs.DataLemmas.{length-bytes, run_is}
use Rattle.qx_machine.specs.Files.{get}
use Rattle.qx_files.proofs.data.Data.run.Goals as goal

pub returns-clause-got : goal.returns-clause-got
returns-clause-got c =
    let offset = c.args.offset in
    let run = c.first_run.result.now in
    let byte = byte_at c.self.inside.bytes.items c.self.inside.places.items in
    let size : length c.args.self.now.bytes ≡ c.self.inside.size = ap (λ (held : Held). length held.bytes) (sym c.self.view_is) ∙ length-bytes byte c.self.inside.size in
    let is : (n : ℕ) → n < length run → get_or run n 0 ≡ byte (offset + n) = rw (← c.as_slice.ensures.value, ← c.as_slice-2.ensures.value) c.first_run.ensures.bytes in
    let within : offset + length run ≤ c.self.inside.size = omega (arith, size, c.first_run.ensures.most, c.requires.within) in
    run_is byte c.self.inside.size offset run is within ∙ ap (λ (held : Held). get held.bytes offset (length run)) c.self.view_is
