use Rattle.std.proofs.Common.{◌≡◌, ◌-◌, ◌++◌, ap, arith, drop, length, length-drop, length-take, min, sym, ◌∙◌}
use Rattle.qx_files.specs.Blocks.{Held}
use Rattle.qx_files.specs.inner.Places.{byte_at}
use Rattle.qx_files.proofs.DataLemmas.{get_within, length-bytes}
use Rattle.qx_machine.specs.Files.{get}
use Rattle.qx_files.proofs.data.Data.read.Goals as goal

pub push-requires-clause-within : goal.push-requires-clause-within
push-requires-clause-within c =
    let size : length c.args.self.now.bytes ≡ c.self.inside.size = ap (λ (held : Held). length held.bytes) (sym c.self.view_is) ∙ length-bytes (byte_at c.self.inside.bytes.items c.self.inside.places.items) c.self.inside.size in
    omega (arith, size, c.min-from.ensures, c.min-count.ensures)

pub returns-clause-got : goal.returns-clause-got
returns-clause-got c =
    let bytes = c.args.self.now.bytes in
    let size : length bytes ≡ c.self.inside.size = ap (λ (held : Held). length held.bytes) (sym c.self.view_is) ∙ length-bytes (byte_at c.self.inside.bytes.items c.self.inside.places.items) c.self.inside.size in
    let from : c.min-from.result ≡ min c.args.offset (length bytes) = c.min-from.ensures ∙ ap (λ k. min c.args.offset k) (sym size) in
    let count : c.min-count.result ≡ min c.args.count (length bytes - min c.args.offset (length bytes)) = c.min-count.ensures ∙ (λ i. min c.args.count (sym size i - from i)) in
    c.push.ensures.got ∙ ap (λ l. c.args.reply.now ++ l) ((λ i. get bytes (from i) (count i)) ∙ get_within bytes c.args.offset c.args.count)

pub returns-clause-count : goal.returns-clause-count
returns-clause-count c =
    let bytes = c.args.self.now.bytes in
    let size : length bytes ≡ c.self.inside.size = ap (λ (held : Held). length held.bytes) (sym c.self.view_is) ∙ length-bytes (byte_at c.self.inside.bytes.items c.self.inside.places.items) c.self.inside.size in
    let long : length (get bytes c.args.offset c.args.count) ≡ min c.args.count (length bytes - c.args.offset) = length-take c.args.count (drop c.args.offset bytes) ∙ ap (λ k. min c.args.count k) (length-drop c.args.offset bytes) in
    omega (arith, size, long, c.min-from.ensures, c.min-count.ensures)
