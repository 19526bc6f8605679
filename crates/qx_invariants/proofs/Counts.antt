-- How many calls wait that are such, where others are.
use Rattle.std.proofs.Common.{◌≡◌, ℕ, ◌+◌, ◌≤◌, Bool, true, false, not, List, [], ◌∷◌, map, refl, ap, arith}
use Rattle.std.specs.Prelude.{◌&&◌, ◌||◌, Option, Some, None, option_map}
use Rattle.std.specs.List.{count_by, list_any}
use Rattle.std.proofs.lemmas.List.Sums.{sum_by-cons, sum_by-le-sum_by}
use Rattle.qx_machine.specs.declared.rows.WaitingCall.{WaitingCall}
use Rattle.qx_machine.specs.Clients.{abandoned, with_abandoned}
use Rattle.qx_machine.specs.Pipes.{Pipe}
use Rattle.qx_machine.specs.Waiting.{Pipes, holds, is_gone}
use Rattle.qx_attr.specs.inner.Counts.{one}
use Rattle.qx_invariants.specs.Waits.{count_waiting, count_waiting_in, though_gone, unless_gone}

pub or_parts : (a b : Bool) → (a || b) ≡ false → (a ≡ false) × (b ≡ false)
or_parts true b is = absurd (cc)
or_parts false b is = (refl, is)

module _ {A : Type 0} where
  pub count-cons : (which : A → Bool) (x : A) (xs : List A) → count_by which (x ∷ xs) ≡ one (which x) + count_by which xs
  count-cons which x xs = sum_by-cons (λ y. one (which y)) x xs

  -- no more are of the first kind than of the second
  pub count-le : (first second : A → Bool) → ((x : A) → one (first x) ≤ one (second x)) → (xs : List A) → count_by first xs ≤ count_by second xs
  count-le first second less xs = sum_by-le-sum_by (λ x. one (first x)) (λ x. one (second x)) xs less

  -- of the first kind are those of both and those of the first alone
  pub count-split : (which both : A → Bool) (xs : List A) → count_by which xs ≡ count_by (λ x. which x && not (both x)) xs + count_by (λ x. which x && both x) xs
  count-split which both [] = refl
  count-split which both (x ∷ xs) =
      let all = count-cons which x xs in
      let without = count-cons (λ y. which y && not (both y)) x xs in
      let with_it = count-cons (λ y. which y && both y) x xs in
      let rest = count-split which both xs in
      let here = parted (which x) (both x) in
      omega (arith, all, without, with_it, rest, here)
    where
      parted : (a b : Bool) → one a ≡ one (a && not b) + one (a && b)
      parted true true = refl
      parted true false = refl
      parted false b = refl

  pub count-map : {B : Type 0} (first : B → Bool) (second : A → Bool) (change : A → B) → ((x : A) → first (change x) ≡ second x) → (xs : List A) → count_by first (map change xs) ≡ count_by second xs
  count-map first second change same [] = refl
  count-map first second change same (x ∷ xs) =
      let now = sum_by-cons (λ y. one (first y)) (change x) (map change xs) in
      let was = count-cons second x xs in
      let rest = count-map first second change same xs in
      let here = alike (first (change x)) (second x) (same x) in
      omega (arith, now, was, rest, here)
    where
      alike : (a b : Bool) → a ≡ b → one a ≡ one b
      alike a b is i = one (is i)

-- ---- in pipes

pub waiting-le : (first second : WaitingCall → Bool) → ((call : WaitingCall) → one (first call) ≤ one (second call)) → (pipes : Pipes) → count_waiting first pipes ≤ count_waiting second pipes
waiting-le first second less pipes = sum_by-le-sum_by (count_waiting_in first) (count_waiting_in second) pipes place
  where
    place : (row : Option (Pipe WaitingCall)) → count_waiting_in first row ≤ count_waiting_in second row
    place None = omega arith
    place (Some pipe) = let readers = count-le first second less pipe.readers in let writers = count-le first second less pipe.writers in omega (arith, readers, writers)

pub waiting-split : (which : WaitingCall → Bool) (pipes : Pipes) → count_waiting which pipes ≡ count_waiting (unless_gone which) pipes + count_waiting (though_gone which) pipes
waiting-split which [] = refl
waiting-split which (row ∷ pipes) =
    let all = sum_by-cons (count_waiting_in which) row pipes in
    let without = sum_by-cons (count_waiting_in (unless_gone which)) row pipes in
    let with_it = sum_by-cons (count_waiting_in (though_gone which)) row pipes in
    let rest = waiting-split which pipes in
    let here = place row in
    omega (arith, all, without, with_it, rest, here)
  where
    place : (row : Option (Pipe WaitingCall)) → count_waiting_in which row ≡ count_waiting_in (unless_gone which) row + count_waiting_in (though_gone which) row
    place None = refl
    place (Some pipe) = let readers = count-split which is_gone pipe.readers in let writers = count-split which is_gone pipe.writers in omega (arith, readers, writers)

-- nobody is none
pub nobody_waits : (pipes : Pipes) → count_waiting (λ call. false) pipes ≡ 0
nobody_waits [] = refl
nobody_waits (row ∷ pipes) =
    let all = sum_by-cons (count_waiting_in (λ call. false)) row pipes in
    let rest = nobody_waits pipes in
    let here = place row in
    omega (arith, all, rest, here)
  where
    none : (calls : List WaitingCall) → count_by (λ call. false) calls ≡ 0
    none [] = refl
    none (call ∷ calls) = let all = count-cons (λ call. false) call calls in let rest = none calls in omega (arith, all, rest)

    place : (row : Option (Pipe WaitingCall)) → count_waiting_in (λ call. false) row ≡ 0
    place None = refl
    place (Some pipe) = let readers = none pipe.readers in let writers = none pipe.writers in omega (arith, readers, writers)

-- where none is found, none waits
any_none : {A : Type 0} (which : A → Bool) (xs : List A) → list_any which xs ≡ false → count_by which xs ≡ 0
any_none which [] none = refl
any_none which (x ∷ xs) none =
    let parts = or_parts (which x) (list_any which xs) none in
    let all = count-cons which x xs in
    let first : one (which x) ≡ 0 = ap one parts.0 in
    let rest = any_none which xs parts.1 in
    omega (arith, all, first, rest)

pub nobody_holds : (which : WaitingCall → Bool) (pipes : Pipes) → list_any (holds which) pipes ≡ false → count_waiting which pipes ≡ 0
nobody_holds which [] none = refl
nobody_holds which (row ∷ pipes) none =
    let parts = or_parts (holds which row) (list_any (holds which) pipes) none in
    let all = sum_by-cons (count_waiting_in which) row pipes in
    let rest = nobody_holds which pipes parts.1 in
    let here = place row parts.0 in
    omega (arith, all, rest, here)
  where
    place : (row : Option (Pipe WaitingCall)) → holds which row ≡ false → count_waiting_in which row ≡ 0
    place None is = refl
    place (Some pipe) is =
        let both = or_parts (list_any which pipe.readers) (list_any which pipe.writers) is in
        let readers = any_none which pipe.readers both.0 in
        let writers = any_none which pipe.writers both.1 in
        omega (arith, readers, writers)

-- ---- as a process ends

module _ (process : ℕ) (first second : WaitingCall → Bool) (same : (call : WaitingCall) → first (abandoned process call) ≡ second call) where
  pub abandoned_waiting : (row : Option (Pipe WaitingCall)) → count_waiting_in first (option_map (with_abandoned process) row) ≡ count_waiting_in second row
  abandoned_waiting None = refl
  abandoned_waiting (Some pipe) =
      let readers = count-map first second (abandoned process) same pipe.readers in let writers = count-map first second (abandoned process) same pipe.writers in omega (arith, readers, writers)

  pub abandoned_count : (pipes : Pipes) → count_waiting first (map (option_map (with_abandoned process)) pipes) ≡ count_waiting second pipes
  abandoned_count [] = refl
  abandoned_count (row ∷ pipes) =
      let now = sum_by-cons (count_waiting_in first) (option_map (with_abandoned process) row) (map (option_map (with_abandoned process)) pipes) in
      let was = sum_by-cons (count_waiting_in second) row pipes in
      let rest = abandoned_count pipes in
      let here = abandoned_waiting row in
      omega (arith, now, was, rest, here)
