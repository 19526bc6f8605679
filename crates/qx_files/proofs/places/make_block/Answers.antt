use Rattle.std.proofs.Common.{rules, ◌≡◌, ℕ, ◌+◌, ◌/◌, ap, ◌∙◌, arith, length, length-append, replicate}
use Rattle.std.proofs.lemmas.List.{length-replicate}
use Rattle.qx_files.specs.inner.Places.{there}
use Rattle.qx_files.proofs.BlockLemmas.{there-set}
use Rattle.qx_files.proofs.PlaceLemmas.{byte-made, stand-made, stay-made}
use Rattle.qx_files.proofs.places.make_block.Goals as goal

pub returns-clause-bytes : goal.returns-clause-bytes
returns-clause-bytes c =
    let n : c.len-index.result / 512 ≡ length c.args.bytes.now.items / 512 = search rules in
    rw (c.set.ensures.row, n, c.with_zeros.ensures.zeros, c.replace.ensures.value) (byte-made c.args.bytes.now.items c.args.places.now.items c.requires.stand c.args.number c.requires.within c.requires.lacking)

pub returns-clause-made : goal.returns-clause-made
returns-clause-made c = ap there c.set.ensures.row ∙ there-set c.args.places.now.items c.args.number (c.len-index.result / 512)

pub returns-clause-stay : goal.returns-clause-stay
returns-clause-stay c =
    let n : c.len-index.result / 512 ≡ length c.args.bytes.now.items / 512 = search rules in
    rw (c.set.ensures.row, n) (stay-made (length c.args.bytes.now.items) c.args.number c.args.places.now.items c.requires.within c.requires.lacking)

pub returns-clause-stand : goal.returns-clause-stand
returns-clause-stand c =
    let n : c.len-index.result / 512 ≡ length c.args.bytes.now.items / 512 = search rules in
    let count : length c.with_zeros.result.items ≡ length c.args.bytes.now.items + 512 =
    rw (c.with_zeros.ensures.zeros, c.replace.ensures.value) (omega (arith, length-append c.args.bytes.now.items (replicate {A = ℕ} 512 0), length-replicate {A = ℕ} 512 0)) in
    rw (c.set.ensures.row, count, n) (stand-made (length c.args.bytes.now.items) c.args.number c.args.places.now.items c.requires.within c.requires.lacking c.requires.stand)
