-- The bytes of a file, by the blocks in which they stand.
use Rattle.std.proofs.Common.{◌≡◌, ◌≢◌, ℕ, ◌+◌, ◌-◌, ◌*◌, ◌/◌, ◌<◌, ◌≤◌, true, false, List, ◌++◌, length, take, drop, replicate, get_or, refl, sym, ap, ◌∙◌, inl, inr, arith, Option, Some, None, is_some, max, min, ◌⊎◌}
use Rattle.std.proofs.lemmas.Bool.{cases_eq, cases_lt}
use Rattle.std.proofs.Math.Seq.{take-add}
use Rattle.std.proofs.lemmas.List.{drop-drop, drop_min, take_min, ext_get_or, length-append, length-take, length-drop, length-replicate, get_or_past, get_or-replicate, get_or-append_right, get_or_append_left, get_or-take, get_or-drop, length-map}
use Rattle.std.proofs.lemmas.List.Elements.{All-from_get_or}
use Rattle.std.proofs.lemmas.List.Folds.{list_any_at}
use Rattle.std.proofs.lemmas.List.FromFn.{fill_by_all, get_or-map-range_with_len, get_or-range_with_len, length-map-range_with_len, length-range_with_len}
use Rattle.std.proofs.lemmas.List.Sums.{list_all-from_AllPass}
use Rattle.std.specs.List.{range_with_len}
use Rattle.std.specs.Prelude.{◌==◌, IsTrue}
use Rattle.qx_isolation.specs.Rows.{row_at}
use Rattle.qx_machine.specs.Files.{get, put}
use Rattle.qx_machine.specs.Wants.{is_blank, reaches_blank}
use Rattle.qx_files.specs.Blocks.{Held, LacksBlock, blocks_after, blocks_for, with_blocks}
use Rattle.qx_files.specs.inner.Places.{LacksOne, LacksPlace, HasAll, byte_after, byte_at, bytes_of, there}
use Rattle.qx_files.proofs.BlockLemmas.{in_put, length-with, made-with, not_put, there_at}
use Rattle.qx_files.proofs.PlaceLemmas.{lacking_bytes}
use Rattle.qx_files.proofs.PutLemmas.{length-put}

pub length-bytes : (byte : ℕ → ℕ) (size : ℕ) → length (bytes_of byte size) ≡ size
length-bytes byte size = length-map-range_with_len byte 0 size

get-bytes : (byte : ℕ → ℕ) (size n : ℕ) → n < size → get_or (bytes_of byte size) n 0 ≡ byte n
get-bytes byte size n within = get_or-map-range_with_len byte 0 size n n 0 within (omega arith)

-- a byte at any place: behind the last one stand zero bytes
get-any : (byte : ℕ → ℕ) (size : ℕ) → ((n : ℕ) → size ≤ n → byte n ≡ 0) → (n : ℕ) → get_or (bytes_of byte size) n 0 ≡ byte n
get-any byte size zeros n = elim (cases_lt n size) [
  | inl within ↦ get-bytes byte size n within
  | inr past ↦ get_or_past (bytes_of byte size) n 0 (omega (arith, length-bytes byte size)) ∙ sym (zeros n past)
]

-- ---- a write

-- a byte of a file into which bytes were put
pub byte_put : (bytes new : List ℕ) (offset n : ℕ) → get_or (put bytes offset new) n 0 ≡ byte_after offset new (λ k. get_or bytes k 0) n
byte_put bytes new offset n = elim (cases_lt n offset) [
  | inl low ↦
      get_or_append_left (take offset bytes ++ replicate (offset - length bytes) 0) (new ++ drop (offset + length new) bytes) 0 n (omega (arith, low, front_length))
      ∙ (elim (cases_lt n (length bytes)) [
        | inl within ↦ get_or_append_left (take offset bytes) (replicate (offset - length bytes) 0) 0 n (omega (arith, low, within, length-take offset bytes)) ∙ get_or-take offset bytes n 0 low
        | inr past ↦
            get_or-append_right (take offset bytes) (replicate (offset - length bytes) 0) (length bytes) n 0 (omega (arith, low, past, length-take offset bytes)) past
            ∙ (get_or-replicate {A = ℕ} (offset - length bytes) (n - length bytes) 0 0 (omega (arith, low, past)) ∙ sym (get_or_past bytes n 0 past))
      ] ∙ sym (not_put offset new (λ k. get_or bytes k 0) n (λ from to. omega (arith, low, from))))
  | inr from ↦
      get_or-append_right (take offset bytes ++ replicate (offset - length bytes) 0) (new ++ drop (offset + length new) bytes) offset n 0 front_length from
      ∙ elim (cases_lt n (offset + length new)) [
        | inl within ↦ get_or_append_left new (drop (offset + length new) bytes) 0 (n - offset) (omega (arith, from, within)) ∙ sym (in_put offset new (λ k. get_or bytes k 0) n from within)
        | inr past ↦
            get_or-append_right new (drop (offset + length new) bytes) (length new) (n - offset) 0 refl (omega (arith, past))
            ∙ (get_or-drop (offset + length new) bytes (n - offset - length new) 0 ∙ (ap (λ k. get_or bytes k 0) (omega (arith, past)) ∙ sym (not_put offset new (λ k. get_or bytes k 0) n (λ low high. omega (arith, past, high)))))
      ]
]
  where
    front_length : length (take offset bytes ++ replicate (offset - length bytes) 0) ≡ offset
    front_length = simp (length-append, length-replicate, length-take) (omega arith)

module _ (old now : ℕ → ℕ) (size offset : ℕ) (new : List ℕ) (zeros : (n : ℕ) → size ≤ n → old n ≡ 0) (is : (n : ℕ) → now n ≡ byte_after offset new old n) where
  pub written_bytes : bytes_of now (max size (offset + length new)) ≡ put (bytes_of old size) offset new
  written_bytes = sym (fill_by_all now (put (bytes_of old size) offset new) (max size (offset + length new)) 0 (length-put (bytes_of old size) new offset ∙ ap (λ k. max k (offset + length new)) (length-bytes old size)) (λ n within.
      byte_put (bytes_of old size) new offset n ∙ (ap (λ before. byte_after offset new before n) (λ i k. get-any old size zeros k i) ∙ sym (is n))))

  pub written_zeros : (n : ℕ) → max size (offset + length new) ≤ n → now n ≡ 0
  written_zeros n past = is n ∙ (not_put offset new old n (λ low high. omega (arith, past, high)) ∙ zeros n (omega (arith, past)))

-- blocks that were made are there
pub made_all : (old made : List (Option ℕ)) (f e : ℕ) → there made ≡ with_blocks (there old) f e → HasAll made f e
made_all old made f e is n from to none = let clash : true ≡ false = sym (made-with (there old) f e n from to) ∙ (ap (λ b. get_or b n false) (sym is) ∙ none) in cc

-- there are no more than the bytes need
pub written_few : (old now : List (Option ℕ)) (size offset count : ℕ) → length old ≤ blocks_for size → there now ≡ blocks_after (there old) offset count → length now ≤ blocks_for (max size (offset + count))
written_few old now size offset count few is = by_count (cases_eq count 0)
  where
    same : length (there now) ≡ length (blocks_after (there old) offset count)
    same = ap length is

    by_count : (count ≡ 0) ⊎ (count ≢ 0) → length now ≤ blocks_for (max size (offset + count))
    by_count (inl none) =
        let after : length (there now) ≡ length (there old) = same ∙ ap (λ k. length (blocks_after (there old) offset k)) none in
        omega (arith, few, none, after, length-map now (λ block. is_some block), length-map old (λ block. is_some block))
    by_count (inr some) =
        let after : length (there now) ≡ length (with_blocks (there old) (offset / 512) (blocks_for (offset + count))) = same ∙ grind (arith, some) in
        let long = length-with (there old) (offset / 512) (blocks_for (offset + count)) (omega (arith, some)) in
        omega (arith, few, some, long, after, length-map now (λ block. is_some block), length-map old (λ block. is_some block))

-- some are there where some were made
pub made_some : (old made : List (Option ℕ)) (offset count : ℕ) → 0 < count → there made ≡ with_blocks (there old) (offset / 512) (blocks_for (offset + count)) → 0 < length made
made_some old made offset count some is =
    let long = length-with (there old) (offset / 512) (blocks_for (offset + count)) (omega (arith, some)) in
    omega (arith, some, long, ap length is, length-map made (λ block. is_some block))

-- what is wanted: one of the blocks isn't there
pub lacks_some : (old : List (Option ℕ)) (offset count : ℕ) → 0 < count → (length old < blocks_for (offset + count)) ⊎ LacksOne old (offset / 512) (blocks_for (offset + count)) → LacksPlace old offset count
lacks_some old offset count some (inl fewer) = (offset + count - 1, omega (arith, some), omega (arith, some), get_or_past (there old) ((offset + count - 1) / 512) false (omega (arith, some, fewer, length-map old (λ block. is_some block))))
lacks_some old offset count some (inr lacks) =
    let from = lacks.1 in
    let to = lacks.2 in
    (max offset (512 * lacks.0), omega arith, omega (arith, some, to), ap (λ n. get_or (there old) n false) (omega (arith, from)) ∙ lacks.3)

none_at : (places : List (Option ℕ)) (n : ℕ) → get_or (there places) n false ≡ false → row_at places n ≡ None
none_at places n none = by_row (row_at places n) (sym (there_at places n) ∙ none)
  where
    by_row : (row : Option ℕ) → is_some row ≡ false → row ≡ None
    by_row None is = refl
    by_row (Some place) is = absurd (cc)

-- a block that isn't there is blank
blank : (bytes : List ℕ) (places : List (Option ℕ)) (size block : ℕ) → ((n : ℕ) → size ≤ n → byte_at bytes places n ≡ 0) → get_or (there places) block false ≡ false → IsTrue (is_blank (bytes_of (byte_at bytes places) size) block)
blank bytes places size block zeros none = list_all-from_AllPass (λ byte. byte == 0) _ (All-from_get_or (λ byte. (byte == 0) ≡ true) (get all (512 * block) 512) 0 (λ n within.
    let less : n < 512 = omega (arith, within, length-take 512 (drop (512 * block) all)) in
    let at : (512 * block) / 512 ≡ block = omega arith in
    ap (λ byte. byte == 0)
    (get_or-take 512 (drop (512 * block) all) n 0 less
    ∙ (get_or-drop (512 * block) all n 0
    ∙ (get-any (byte_at bytes places) size zeros (512 * block + n)
    ∙ lacking_bytes bytes places (512 * block) n (ap (row_at places) at ∙ none_at places block none) (omega arith))))))
  where
    all : List ℕ
    all = bytes_of (byte_at bytes places) size

pub lacks_blank : (bytes : List ℕ) (places : List (Option ℕ)) (size offset count : ℕ) → ((n : ℕ) → size ≤ n → byte_at bytes places n ≡ 0) → LacksPlace places offset count → LacksBlock (record { bytes = bytes_of (byte_at bytes places) size; blocks = there places }) offset count
lacks_blank bytes places size offset count zeros lacks = (lacks.0, lacks.1, lacks.2, lacks.3, blank bytes places size (lacks.0 / 512) zeros lacks.3)

-- a write that lacks a block reaches one that is blank
pub lacks-reaches : (held : Held) (offset count : ℕ) → LacksBlock held offset count → IsTrue (reaches_blank held.bytes offset count)
lacks-reaches held offset count lacks =
    let from = lacks.1 in
    let to = lacks.2 in
    let n = lacks.0 - offset in
    let less : n < count = omega (arith, from, to) in
    let at : get_or (range_with_len offset count) n 0 ≡ lacks.0 = get_or-range_with_len offset count n 0 less ∙ omega (arith, from) in
    list_any_at (λ place. is_blank held.bytes (place / 512)) (range_with_len offset count) n 0 (omega (arith, less, length-range_with_len offset count)) (ap (λ place. is_blank held.bytes (place / 512)) at ∙ lacks.4)

-- ---- a read

-- a run
pub run_is : (byte : ℕ → ℕ) (size offset : ℕ) (run : List ℕ) → ((n : ℕ) → n < length run → get_or run n 0 ≡ byte (offset + n)) → offset + length run ≤ size → run ≡ get (bytes_of byte size) offset (length run)
run_is byte size offset run is within = ext_get_or 0 _ _ (omega (arith, size_is, within)) (λ k less.
    is k less ∙ (sym (get-bytes byte size (offset + k) (omega (arith, less, within))) ∙ (sym (get_or-drop offset (bytes_of byte size) k 0) ∙ sym (get_or-take (length run) (drop offset (bytes_of byte size)) k 0 less))))
  where
    size_is : length (get (bytes_of byte size) offset (length run)) ≡ min (length run) (size - offset)
    size_is = simp (length-take, length-drop, length-bytes) refl

-- bytes that end with the file, from its end on at the latest
pub get_within : (bytes : List ℕ) (offset count : ℕ) → get bytes (min offset (length bytes)) (min count (length bytes - min offset (length bytes))) ≡ get bytes offset count
get_within bytes offset count = ap (λ l. take (min count (length bytes - min offset (length bytes))) l) (drop_min offset bytes) ∙ ap2
  where
    rest : length (drop offset bytes) ≡ length bytes - min offset (length bytes)
    rest = length-drop offset bytes ∙ omega arith

    ap2 : take (min count (length bytes - min offset (length bytes))) (drop offset bytes) ≡ take count (drop offset bytes)
    ap2 = ap (λ n. take (min count n) (drop offset bytes)) (sym rest) ∙ take_min count (drop offset bytes)

-- a piece, and the rest behind it
pub get_more : (bytes : List ℕ) (offset n count : ℕ) → n ≤ count → get bytes offset n ++ get bytes (offset + n) (count - n) ≡ get bytes offset count
get_more bytes offset n count le = ap (λ l. get bytes offset n ++ take (count - n) l) (sym (drop-drop n offset bytes)) ∙ (sym (take-add n (count - n) (drop offset bytes)) ∙ ap (λ k. take k (drop offset bytes)) (omega (arith, le)))
