use Rattle.std.proofs.Common.{◌≡◌, ◌-◌, ◌<◌, false, true, inl, inr, arith, ap, sym, ◌∙◌, is_some, length}
use Rattle.std.proofs.lemmas.Result.{err_from_is_err_and, on_err_weaker, on_ok_weaker}
use Rattle.qx_isolation.specs.Rows.{row_at}
use Rattle.qx_files.proofs.BlockLemmas.{lacks_further, lacks_this, made_last, made_none, made_there, place_lacking, place_within}
use Rattle.qx_files.proofs.PlaceLemmas.{byte-none, stay-none}
use Rattle.qx_files.proofs.places.+make_blocks.Goals as goal

pub returns-then-first-end-clause-bytes : goal.returns-then-first-end-clause-bytes
returns-then-first-end-clause-bytes t c =
    rw c.make_places.ensures.bytes (on_ok_weaker c.make_places.result (λ is. byte-none c.args.places.now.items c.make_places.new.places.items (c.args.total - length c.args.places.now.items) is c.args.bytes.now.items) c.make_places.ensures.ok)

pub returns-then-first-end-clause-made : goal.returns-then-first-end-clause-made
returns-then-first-end-clause-made t c =
    on_ok_weaker c.make_places.result (λ is. made_none c.args.places.now.items c.make_places.new.places.items c.args.first c.args.end c.args.total c.requires.within c.if-first-end.true is) c.make_places.ensures.ok

pub returns-then-first-end-clause-stay : goal.returns-then-first-end-clause-stay
returns-then-first-end-clause-stay t c =
    on_ok_weaker c.make_places.result (λ is. stay-none c.args.places.now.items c.make_places.new.places.items (c.args.total - length c.args.places.now.items) is) c.make_places.ensures.ok

pub returns-then-first-end-clause-lacks : goal.returns-then-first-end-clause-lacks
returns-then-first-end-clause-lacks t c = on_err_weaker c.make_places.result (λ lacks. elim lacks [ inl some ↦ inl some | inr fewer ↦ inr (inl fewer) ]) c.make_places.ensures.lacks

pub returns-then-has_block-clause-made : goal.returns-then-has_block-clause-made
returns-then-has_block-clause-made t c =
    let less : c.args.first < c.args.end = grind arith in
    let is : is_some (row_at c.args.places.now.items (c.args.end - 1)) ≡ true = ap (λ places. is_some (row_at places (c.args.end - 1))) (sym c.as_slice.ensures.value) ∙ sym c.if-has_block.ensures in
    on_ok_weaker c.make_blocks.result (λ made. made_there c.args.places.now.items c.make_blocks.new.places.items c.args.first c.args.end c.args.total c.requires.within less is made) c.make_blocks.ensures.made

pub returns-then-has_block-clause-lacks : goal.returns-then-has_block-clause-lacks
returns-then-has_block-clause-lacks t c = on_err_weaker c.make_blocks.result (λ lacks. lacks_further c.args.places.now.items c.args.first c.args.end c.args.total c.args.more lacks) c.make_blocks.ensures.lacks

pub returns-in_err-make_blocks-clause-lacks : goal.returns-in_err-make_blocks-clause-lacks
returns-in_err-make_blocks-clause-lacks t c =
    let p = err_from_is_err_and c.from_residual.result c.from_residual.ensures.1 in
    let less : c.args.first < c.args.end = grind arith in
    let none : is_some (row_at c.args.places.now.items (c.args.end - 1)) ≡ false = ap (λ places. is_some (row_at places (c.args.end - 1))) (sym c.as_slice.ensures.value) ∙ sym c.if-has_block.ensures in
    rw p.1 (inr (inr (lacks_this c.args.places.now.items c.args.first c.args.end less none)))

pub make_block-requires-clause-within : goal.make_block-requires-clause-within
make_block-requires-clause-within t c =
    let less : c.args.first < c.args.end = grind arith in
    place_within c.args.places.now.items c.make_blocks-2.new.places.items c.args.first c.args.end c.args.total less c.requires.within c.in_ok-make_blocks.ensures.made

pub make_block-requires-clause-lacking : goal.make_block-requires-clause-lacking
make_block-requires-clause-lacking t c =
    let less : c.args.first < c.args.end = grind arith in
    place_lacking c.args.places.now.items c.make_blocks-2.new.places.items c.args.first c.args.end c.args.total less c.requires.within c.in_ok-make_blocks.ensures.made (ap (λ places. is_some (row_at places (c.args.end - 1))) (sym c.as_slice.ensures.value) ∙ sym c.if-has_block.ensures)

pub returns-clause-made : goal.returns-clause-made
returns-clause-made t c =
    let less : c.args.first < c.args.end = grind arith in
    made_last c.args.places.now.items c.make_block.new.places.items c.args.first c.args.end c.args.total c.requires.within c.make_blocks-2.new.places.items less c.in_ok-make_blocks.ensures.made c.make_block.ensures.made

pub returns-clause-stay : goal.returns-clause-stay
returns-clause-stay t c = λ n index is. c.make_block.ensures.stay n index (c.in_ok-make_blocks.ensures.stay n index is)
