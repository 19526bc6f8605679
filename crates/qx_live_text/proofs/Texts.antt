-- A text line by line: what is read to a newline is the first of its lines, and what answers the rest follows.
use Rattle.std.proofs.Common.{◌≡◌, ℕ, suc, ◌+◌, ◌-◌, ◌<◌, List, [], ◌∷◌, ◌++◌, Bool, true, false, length, refl, sym, ap, subst, ◌∙◌, arith, append_assoc, append-nil, get_or, take, if◌then◌else◌}
use Rattle.std.specs.Prelude.{◌==◌, ◌&&◌, IfSome, Option, None, Some, nat_lt}
use Rattle.std.specs.Io.BufRead.{DropsThrough, drop_through, ends_with_byte, first_piece, strip_last, take_through}
use Rattle.std.specs.Io.KnownBytes.{Appends, IsAtEnd}
use Rattle.std.specs.List.{onto_first}
use Rattle.std.proofs.KnownBytes.{Appends-nil, Appends-trans}
use Rattle.std.proofs.lemmas.Bool.{cond_both}
use Rattle.std.proofs.lemmas.Bool.Decides.{nat_tests}
use Rattle.qx_live_text.specs.Front.{Answered, Front, after_text, answer, answers, session_text, text_lines, unasked}

-- ---- the first line

strip_newline : (x : ℕ) → (x == 10) ≡ true → strip_last 10 (x ∷ []) ≡ []
strip_newline x newline =
    let place : length (x ∷ []) - 1 ≡ 0 = omega arith in
    let some : nat_lt 0 (length (x ∷ [])) ≡ true = grind (arith, nat_tests) in
    let ends : ends_with_byte 10 (x ∷ []) ≡ true = (λ i. some i && (get_or (x ∷ []) (place i) 0 == 10)) ∙ newline in
    (λ i. if ends i then take (place i) (x ∷ []) else x ∷ [])

strip_cons : (x : ℕ) (xs : List ℕ) → (x == 10) ≡ false → strip_last 10 (x ∷ xs) ≡ x ∷ strip_last 10 xs
strip_cons x [] differ =
    let place : length (x ∷ []) - 1 ≡ 0 = omega arith in
    let ends : ends_with_byte 10 (x ∷ []) ≡ false = ap (λ k. nat_lt 0 (length (x ∷ [])) && (get_or (x ∷ []) k 0 == 10)) place ∙ rw differ (none (nat_lt 0 (length (x ∷ [])))) in
    ap (λ b. if b then take (length (x ∷ []) - 1) (x ∷ []) else x ∷ []) ends
  where
    none : (b : Bool) → (b && false) ≡ false
    none true = refl
    none false = refl
strip_cons x (y ∷ rest) differ =
    let xs = y ∷ rest in
    let place : length (x ∷ xs) - 1 ≡ suc (length rest) = omega arith in
    let before : length xs - 1 ≡ length rest = omega arith in
    let some : nat_lt 0 (length (x ∷ xs)) ≡ nat_lt 0 (length xs) = grind (arith, nat_tests) in
    let last : get_or (x ∷ xs) (length (x ∷ xs) - 1) 0 ≡ get_or xs (length xs - 1) 0 = ap (λ k. get_or (x ∷ xs) k 0) place ∙ sym (ap (λ k. get_or xs k 0) before) in
    let front : take (length (x ∷ xs) - 1) (x ∷ xs) ≡ x ∷ take (length xs - 1) xs = ap (λ k. take k (x ∷ xs)) place ∙ sym (ap (λ k. x ∷ take k xs) before) in
    (λ i. if some i && (last i == 10) then front i else x ∷ xs)
    ∙ cond_both (ends_with_byte 10 xs) (take (length xs - 1) xs) xs (λ l. (if ends_with_byte 10 xs then x ∷ take (length xs - 1) xs else x ∷ xs) ≡ x ∷ l)
    (λ ends. ap (λ b. if b then x ∷ take (length xs - 1) xs else x ∷ xs) ends)
    (λ goes. ap (λ b. if b then x ∷ take (length xs - 1) xs else x ∷ xs) goes)

split_at : (x : ℕ) (xs : List ℕ) (is : Bool) → (x == 10) ≡ is → onto_first x (text_lines xs) ≡ (x ∷ first_piece 10 xs) ∷ text_lines (drop_through 10 xs)
    → text_lines (x ∷ xs) ≡ first_piece 10 (x ∷ xs) ∷ text_lines (drop_through 10 (x ∷ xs))
split_at x xs true newline later =
    ap (λ b. if b then [] ∷ text_lines xs else onto_first x (text_lines xs)) newline
    ∙ ((λ i. sym (strip_newline x newline) i ∷ text_lines xs)
    ∙ (λ i. strip_last 10 (if sym newline i then x ∷ [] else x ∷ take_through 10 xs) ∷ text_lines (if sym newline i then xs else drop_through 10 xs)))
split_at x xs false other later =
    ap (λ b. if b then [] ∷ text_lines xs else onto_first x (text_lines xs)) other
    ∙ (later
    ∙ ((λ i. sym (strip_cons x (take_through 10 xs) other) i ∷ text_lines (drop_through 10 xs))
    ∙ (λ i. strip_last 10 (if sym other i then x ∷ [] else x ∷ take_through 10 xs) ∷ text_lines (if sym other i then xs else drop_through 10 xs))))

lines_split : (x : ℕ) (xs : List ℕ) → text_lines (x ∷ xs) ≡ first_piece 10 (x ∷ xs) ∷ text_lines (drop_through 10 (x ∷ xs))
lines_split x [] = split_at x [] (x == 10) refl refl
lines_split x (y ∷ rest) = split_at x (y ∷ rest) (x == 10) refl (ap (onto_first x) (lines_split y rest))

-- ---- answers, one behind the other

-- a text behind what answers lines, and the front after them
abbrev behind : Answered → Answered → Answered
behind first rest = record { front = rest.front; text = first.text ++ rest.text }

-- what answers a text is what answers its first line, and then what answers the rest
answers_first : (w : Front) (xs : List ℕ) → 0 < length xs
    → after_text w xs ≡ behind (answer w (first_piece 10 xs)) (after_text (answer w (first_piece 10 xs)).front (drop_through 10 xs))
answers_first w [] some = absurd (omega (arith, some))
answers_first w (x ∷ xs) some = ap (answers w) (lines_split x xs)

answers_both : (w : Front) (xs ys : List (List ℕ)) → answers w (xs ++ ys) ≡ behind (answers w xs) (answers (answers w xs).front ys)
answers_both w [] ys = refl
answers_both w (x ∷ xs) ys =
    let first = answer w x in
    let rest = answers first.front xs in
    let more = answers rest.front ys in
    ap (behind first) (answers_both first.front xs ys)
    ∙ (λ i. record { front = more.front; text = sym (append_assoc first.text rest.text more.text) i })

-- ---- so far

-- the lines before what is left were answered
pub record Going (begun : Front) (bytes : List ℕ) (before after : Option (List ℕ)) (left : List ℕ) (w : Front) : Type 0 where
  pub text : List ℕ
  pub appended : Appends before after text
  pub whole : text ++ (after_text w left).text ≡ (after_text begun bytes).text
  pub front : (after_text w left).front ≡ (after_text begun bytes).front

going_begun : (w : Front) (bytes : List ℕ) (known : Option (List ℕ)) → Going w bytes known known bytes w
going_begun w bytes known = record { text = []; appended = Appends-nil known; whole = refl; front = refl }

going_on : (begun : Front) (bytes : List ℕ) (before after later : Option (List ℕ)) (left : List ℕ) (w next : Front) (written : List ℕ) → 0 < length left
    → Going begun bytes before after left w → next ≡ (answer w (first_piece 10 left)).front → written ≡ (answer w (first_piece 10 left)).text → Appends after later written
    → Going begun bytes before later (drop_through 10 left) next
going_on begun bytes before after later left w next written some g next_is written_is appends =
    let rest = drop_through 10 left in
    let all = answers_first w left some in
    record {
      text = g.text ++ written;
      appended = Appends-trans before after later g.text written g.appended appends;
      whole =
          append_assoc g.text written (after_text next rest).text
          ∙ ((λ i. g.text ++ (written_is i ++ (after_text (next_is i) rest).text))
          ∙ (ap (λ (l : Answered). g.text ++ l.text) (sym all) ∙ g.whole));
      front = ap (λ v. (after_text v rest).front) next_is ∙ (ap (λ (l : Answered). l.front) (sym all) ∙ g.front);
    }

-- nothing is left
pub record Gone (begun : Front) (bytes : List ℕ) (before after : Option (List ℕ)) (w : Front) : Type 0 where
  pub answered : Appends before after (after_text begun bytes).text
  pub front : w ≡ (after_text begun bytes).front

going_end : (begun : Front) (bytes : List ℕ) (before after : Option (List ℕ)) (left : List ℕ) (w : Front) → Going begun bytes before after left w → left ≡ [] → Gone begun bytes before after w
going_end begun bytes before after left w g none = record {
  answered = subst (Appends before after) (sym (append-nil g.text) ∙ (ap (λ l. g.text ++ (after_text w l).text) (sym none) ∙ g.whole)) g.appended;
  front = ap (λ l. (after_text w l).front) (sym none) ∙ g.front;
}

-- ---- where the bytes of the reader are known

-- the invariant of the loop
abbrev pub GoesOn : Front → Option (List ℕ) → Option (List ℕ) → Option (List ℕ) → Option (List ℕ) → Front → Type 0
GoesOn begun all known before after w = IfSome all (λ bytes. (left : List ℕ) × (known ≡ Some left) × Going begun bytes before after left w)

pub goes_begun : (w : Front) (known contents : Option (List ℕ)) → GoesOn w known known contents contents w
goes_begun w None contents = tt
goes_begun w (Some bytes) contents = (bytes, refl, going_begun w bytes contents)

taken_some : (xs read : List ℕ) → read ≡ take_through 10 xs → 0 < length read → 0 < length xs
taken_some [] read is some = absurd (omega (arith, some, ap length is))
taken_some (x ∷ xs) read is some = omega arith

-- one more line was read and answered
going_more : (begun : Front) (bytes : List ℕ) (before after later : Option (List ℕ)) (left : List ℕ) (w next : Front) (known rest : Option (List ℕ)) (read line written : List ℕ)
    → known ≡ Some left → IfSome known (λ xs. read ≡ take_through 10 xs) → DropsThrough known rest 10 → 0 < length read → line ≡ strip_last 10 read
    → next ≡ (answer w line).front → written ≡ (answer w line).text → Appends after later written → Going begun bytes before after left w
    → ((more : List ℕ) × (rest ≡ Some more) × Going begun bytes before later more next)
going_more begun bytes before after later left w next known rest read line written is bytes_read bytes_left some line_is next_is written_is appends g =
    let read_is : read ≡ take_through 10 left = subst (λ o. IfSome o (λ xs. read ≡ take_through 10 xs)) is bytes_read in
    let rest_is : rest ≡ Some (drop_through 10 left) = subst (λ o. DropsThrough o rest 10) is bytes_left in
    let first : line ≡ first_piece 10 left = line_is ∙ ap (strip_last 10) read_is in (
      drop_through 10 left,
      rest_is,
      going_on begun bytes before after later left w next written (taken_some left read read_is some) g (next_is ∙ ap (λ l. (answer w l).front) first) (written_is ∙ ap (λ l. (answer w l).text) first) appends,
    )

pub goes_more : (begun : Front) (all known rest before after later : Option (List ℕ)) (w next : Front) (read line written : List ℕ)
    → GoesOn begun all known before after w → IfSome known (λ xs. read ≡ take_through 10 xs) → DropsThrough known rest 10 → 0 < length read → line ≡ strip_last 10 read
    → next ≡ (answer w line).front → written ≡ (answer w line).text → Appends after later written → GoesOn begun all rest before later next
goes_more begun None known rest before after later w next read line written g bytes_read bytes_left some line_is next_is written_is appends = tt
goes_more begun (Some bytes) known rest before after later w next read line written g bytes_read bytes_left some line_is next_is written_is appends =
    going_more begun bytes before after later g.0 w next known rest read line written g.1 bytes_read bytes_left some line_is next_is written_is appends g.2

pub goes_over : (begun : Front) (all known before after : Option (List ℕ)) (w : Front) → GoesOn begun all known before after w → IsAtEnd known
    → IfSome all (λ bytes. Gone begun bytes before after w)
goes_over begun None known before after w g at_end = tt
goes_over begun (Some bytes) known before after w g at_end = going_end begun bytes before after g.0 w g.2 (subst IsAtEnd g.1 at_end)

-- ---- two texts

-- a text was answered, and then another
pub both_answered : (keeps : Bool) (begun next : Front) (first : List ℕ) (known before between after : Option (List ℕ)) → begun ≡ unasked keeps
    → Appends before between (after_text begun first).text → next ≡ (after_text begun first).front → IfSome known (λ bytes. Appends between after (after_text next bytes).text)
    → IfSome known (λ bytes. Appends before after (session_text keeps first bytes))
unfolding session_text
both_answered keeps begun next first None before between after begun_is one next_is two = tt
both_answered keeps begun next first (Some bytes) before between after begun_is one next_is two =
    let lines = text_lines first ++ text_lines bytes in
    let met = after_text begun first in
    let all : met.text ++ (after_text next bytes).text ≡ (answers begun lines).text =
    ap (λ v. met.text ++ (after_text v bytes).text) next_is ∙ sym (ap (λ (l : Answered). l.text) (answers_both begun (text_lines first) (text_lines bytes))) in
    subst (Appends before after) (all ∙ ap (λ v. (answers v lines).text) begun_is) (Appends-trans before between after met.text (after_text next bytes).text one two)
