-- Bytes that are put into a file: zero bytes behind its end, then the new ones in their place.
use Rattle.std.proofs.Common.{◌≡◌, ℕ, ◌+◌, ◌-◌, List, ◌++◌, length, take, drop, replicate, sym, ap, ◌∙◌, arith, length-append, length-drop, length-take, max}
use Rattle.std.proofs.Math.Seq.{drop-append-add, drop-append_seam, take-append_seam}
use Rattle.std.proofs.lemmas.List.{length-replicate}
use Rattle.qx_machine.specs.Files.{get, put}

-- a file ends where it ended, or where the new bytes do
pub length-put : (bytes new : List ℕ) (o : ℕ) → length (put bytes o new) ≡ max (length bytes) (o + length new)
length-put bytes new o = simp (length-append, length-replicate, length-take, length-drop) (omega arith)

-- ---- laws

module _ (bytes : List ℕ) (offset : ℕ) (new : List ℕ) where
  begin : List ℕ
  begin = take offset bytes ++ replicate (offset - length bytes) 0

  length-begin : length begin ≡ offset
  unfolding begin
  length-begin = simp (length-append, length-replicate, length-take) (omega arith)

  rest : List ℕ
  rest = drop (offset + length new) bytes

  pub read_back : get (put bytes offset new) offset (length new) ≡ new
  unfolding begin rest
  read_back = ap (λ n. take (length new) (drop n (begin ++ (new ++ rest)))) (sym length-begin) ∙ (ap (take (length new)) (drop-append_seam begin (new ++ rest)) ∙ take-append_seam new rest)

  pub kept_before : take offset (put bytes offset new) ≡ take offset bytes ++ replicate (offset - length bytes) 0
  unfolding begin rest
  kept_before = ap (λ n. take n (begin ++ (new ++ rest))) (sym length-begin) ∙ take-append_seam begin (new ++ rest)

  pub kept_behind : drop (offset + length new) (put bytes offset new) ≡ drop (offset + length new) bytes
  unfolding begin rest
  kept_behind = ap (λ n. drop (n + length new) (begin ++ (new ++ rest))) (sym length-begin) ∙ (drop-append-add begin (new ++ rest) (length new) ∙ drop-append_seam new rest)
