use Rattle.std.proofs.Common.{rules, ◌≡◌, ◌/◌, ap, arith, length, sym, ◌∙◌, Some, is_some}
use Rattle.std.proofs.lemmas.List.{length-map}
use Rattle.std.proofs.lemmas.List.Sums.{count_by-le-length}
use Rattle.qx_files.specs.Blocks.{Held, count_of}
use Rattle.qx_files.specs.inner.Places.{byte_at, there}
use Rattle.qx_files.proofs.DataLemmas.{length-bytes}
use Rattle.qx_files.proofs.data.Data.blocks.Goals as goal

pub returns-clause-count : goal.returns-clause-count
returns-clause-count c =
    let long : c.len.result ≡ length c.self.inside.bytes.items = search rules in
    let count : c.len.result / 512 ≡ count_of (Some (there c.self.inside.places.items)) = omega (arith, long, c.self.invariant.stand.counted) in
    count ∙ ap (λ (held : Held). count_of (Some held.blocks)) c.self.view_is

pub returns-clause-few : goal.returns-clause-few
returns-clause-few c =
    let places = c.self.inside.places.items in
    let long : c.len.result ≡ length c.self.inside.bytes.items = search rules in
    let size : length c.args.self.now.bytes ≡ c.self.inside.size = ap (λ (held : Held). length held.bytes) (sym c.self.view_is) ∙ length-bytes (byte_at c.self.inside.bytes.items places) c.self.inside.size in
    omega (arith, long, size, c.self.invariant.stand.counted, count_by-le-length (λ is_there. is_there) (there places), length-map places (λ place. is_some place), c.self.invariant.few)
