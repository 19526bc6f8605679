use Rattle.std.proofs.Common.{Bool, eqb, filter, length, map, not, ap, sym, ◌∙◌, rules, ◌≡◌, ◌==◌, ◌++◌, ◌∷◌, [], List, ℕ, refl, true, false}
use borrow.Author.Tests.{tests}
use Rattle.std.proofs.lemmas.Iterator.Consumers.{YieldsList-end}
use Rattle.std.proofs.lemmas.Iterator.Splits.{YieldsList-from_slice_split}
use Rattle.std.proofs.lemmas.List.{append-nil, map-append}
use Rattle.std.proofs.lemmas.List.Elements.{filter-append}
use Rattle.qx_words.proofs.words.split_words.Goals as goal

pub loop-word-init : goal.loop-word-init
loop-word-init c = ap (map (λ word. word.now)) c.clear.ensures.items

abbrev named : List ℕ → Bool
named word = not (length word == 0)

-- a piece that is not empty is one word more, and an empty one is none
one_more : (pieces : List (List ℕ)) (piece : List ℕ) → (length piece == 0) ≡ false → filter named (pieces ++ piece ∷ []) ≡ filter named pieces ++ piece ∷ []
one_more pieces piece some = filter-append named pieces (piece ∷ []) ∙ rw some refl

none_more : (pieces : List (List ℕ)) (piece : List ℕ) → (length piece == 0) ≡ true → filter named (pieces ++ piece ∷ []) ≡ filter named pieces
none_more pieces piece none = filter-append named pieces (piece ∷ []) ∙ rw none (append-nil (filter named pieces))

pub loop-word-preserved-in-Continue-1 : goal.loop-word-preserved-in-Continue-1
loop-word-preserved-in-Continue-1 c =
    rw (c.in_ok-push.ensures.items, map-append (λ word. word.now) c.loop-word.words.items (c.in-Some.word ∷ []), map-append (λ word. word.now) c.loop-word.yielded (c.in-Some.word ∷ []))
    (ap (λ words. words ++ c.in-Some.word.now ∷ []) c.loop-word.invariant ∙ sym (one_more (map (λ word. word.now) c.loop-word.yielded) c.in-Some.word.now (cc)))

pub loop-word-preserved : goal.loop-word-preserved
loop-word-preserved c =
    rw (map-append (λ word. word.now) c.loop-word.yielded (c.in-Some.word ∷ []))
    (c.loop-word.invariant ∙ sym (none_more (map (λ word. word.now) c.loop-word.yielded) c.in-Some.word.now (cc)))

pub returns : goal.returns
returns c =
    let all = YieldsList-end
    (YieldsList-from_slice_split _ (λ byte. eqb byte 32) c.args.line.now (cc) (cc) (cc) (λ x b q k. search (rules, tests)))
    c.loop-word.yielded _ c.loop-word.yielded_by _ _ c.in-None.is c.next.ensures.steps in
    record { words = c.loop-word.invariant ∙ ap (filter (λ word. not (eqb (length word) 0))) all.0 }
