use borrow.Rule.Slice.PartMut.{put_mid}
use Rattle.std.proofs.Common.{◌≡◌, ◌+◌, ◌-◌, ◌*◌, ◌%◌, ◌++◌, ap, arith, drop, ◌∙◌, length, take}
use Rattle.std.proofs.lemmas.List.{drop-drop}
use Rattle.qx_files.specs.inner.Places.{pasted}
use Rattle.qx_files.proofs.PlaceLemmas.{byte-put, run_stands, run_within}
use Rattle.qx_files.proofs.places.put_run.Goals as goal

pub returns : goal.returns
returns c =
    let index = c.index_of-index.result in
    let new = c.args.new.now in
    let bytes = c.args.bytes.now in
    let places = c.args.places.now in
    let at = 512 * index + c.args.offset % 512 in
    let is = c.index_of-index.ensures.index in
    let now : put_mid at (at + length new - at) bytes c.copy_from_slice.new.self ≡ pasted at new bytes =
    (let span : at + length new - at ≡ length new = omega arith in λ i. take at bytes ++ (c.copy_from_slice.ensures.after i ++ drop (span i) (drop at bytes))) ∙ ap (λ rest. take at bytes ++ (new ++ rest)) (drop-drop (length new) at bytes) in
    record {
      put = rw now (byte-put bytes places c.requires.stand c.args.offset at new (run_within places c.args.in_order c.args.offset (length new) index c.requires.ordered c.requires.run is (length bytes) c.requires.stand) (run_stands places c.args.in_order c.args.offset (length new) index c.requires.ordered c.requires.run is));
    }
