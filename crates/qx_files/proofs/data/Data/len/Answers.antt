use Rattle.std.proofs.Common.{ap, length, sym, ◌∙◌}
use Rattle.qx_files.specs.Blocks.{Held}
use Rattle.qx_files.specs.inner.Places.{byte_at}
use Rattle.qx_files.proofs.DataLemmas.{length-bytes}
use Rattle.qx_files.proofs.data.Data.len.Goals as goal

pub returns : goal.returns
returns c = sym (length-bytes (byte_at c.self.inside.bytes.items c.self.inside.places.items) c.self.inside.size) ∙ ap (λ (held : Held). length held.bytes) c.self.view_is
