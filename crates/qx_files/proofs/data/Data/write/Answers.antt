use Rattle.std.proofs.Common.{◌≡◌, ap, length, subst, ◌∙◌}
use Rattle.std.proofs.lemmas.Result.{err_from_is_err_and}
use Rattle.qx_files.specs.Blocks.{Held, LacksBlock, blocks_after}
use Rattle.qx_files.specs.inner.Places.{byte_at, bytes_of, there}
use Rattle.qx_files.proofs.DataLemmas.{lacks_blank, written_bytes, written_few, written_zeros}
use Rattle.qx_machine.specs.Files.{put}
use Rattle.qx_files.proofs.data.Data.write.Goals as goal

pub invariant_of-self-2 : goal.invariant_of-self-2
invariant_of-self-2 c =
    let old = byte_at c.self.inside.bytes.items c.self.inside.places.items in
    let now = byte_at c.write_bytes.new.bytes.items c.write_bytes.new.places.items in
    rw c.max-self-inside.ensures (record {
      stand = c.in_ok-write_bytes.ensures.stand;
      ordered = c.in_ok-write_bytes.ensures.ordered;
      zeros = written_zeros old now c.self.inside.size c.args.offset c.args.new.now c.self.invariant.zeros c.in_ok-write_bytes.ensures.bytes;
      few = written_few c.self.inside.places.items c.write_bytes.new.places.items c.self.inside.size c.args.offset (length c.args.new.now) c.self.invariant.few c.in_ok-write_bytes.ensures.there;
      room = c.in_ok-write_bytes.ensures.room;
      none = c.in_ok-write_bytes.ensures.none;
    })

pub returns-in_err-write_bytes-clause-lacks : goal.returns-in_err-write_bytes-clause-lacks
returns-in_err-write_bytes-clause-lacks c =
    let p = err_from_is_err_and c.from_residual.result c.from_residual.ensures.1 in
    let lacks = lacks_blank c.self.inside.bytes.items c.self.inside.places.items c.self.inside.size c.args.offset (length c.args.new.now) c.self.invariant.zeros c.in_err-write_bytes.ensures.lacks in
    rw p.1 (subst (λ held. LacksBlock held c.args.offset (length c.args.new.now)) c.self.view_is lacks)

pub returns-clause-ok : goal.returns-clause-ok
returns-clause-ok c =
    let old = byte_at c.self.inside.bytes.items c.self.inside.places.items in
    let now = byte_at c.write_bytes.new.bytes.items c.write_bytes.new.places.items in
    let bytes : bytes_of now c.max-self-inside.result ≡ put c.args.self.now.bytes c.args.offset c.args.new.now =
    ap (bytes_of now) c.max-self-inside.ensures
    ∙ (written_bytes old now c.self.inside.size c.args.offset c.args.new.now c.self.invariant.zeros c.in_ok-write_bytes.ensures.bytes ∙ ap (λ (held : Held). put held.bytes c.args.offset c.args.new.now) c.self.view_is) in
    let blocks : there c.write_bytes.new.places.items ≡ blocks_after c.args.self.now.blocks c.args.offset (length c.args.new.now) =
    c.in_ok-write_bytes.ensures.there ∙ ap (λ (held : Held). blocks_after held.blocks c.args.offset (length c.args.new.now)) c.self.view_is in
    λ i. record { bytes = bytes i; blocks = blocks i }
