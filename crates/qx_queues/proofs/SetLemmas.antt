-- Sets over a written-out order: what they contain, as a key comes or goes.
use Rattle.std.proofs.Common.{◌≡◌, ◌≢◌, inl, inr, ℕ, ◌&&◌, ◌||◌, ◌==◌, not, Bool, true, false, refl, sym, ◌∙◌, ap, ap₂, arith}
use Rattle.std.specs.FinSet as set
use Rattle.std.specs.Cmp.{IsTotalOrder, eq_by_cmp_equiv}
use Rattle.std.specs.Ordering.{eq_by_cmp, is_eq, nat_cmp, ordering_then}
use Rattle.std.specs.declared.cmp.Ordering.{Ordering}
use Rattle.std.specs.declared.cmp.Ordering.TheVariants.{Less, Equal, Greater}
use Rattle.std.proofs.lemmas.Bool.{cases_Bool}
use Rattle.std.proofs.lemmas.Bool.Decides.{nat_tests}
use Rattle.std.proofs.lemmas.Cmp.{nat_cmp_total, on_total, then_total}
use Rattle.qx_types.specs.declared.names.Proc.{Proc}
use Rattle.qx_types.specs.declared.names.Thread.{Thread}
use Rattle.qx_queues.specs.inner.Queues.{is_same_server}
use Rattle.qx_queues.specs.Queues.{is_same_thread, proc_cmp, server_cmp, thread_cmp}
use Rattle.qx_queues.proofs.EntryLemmas.{is_same_thread-same}

module _ {K : Type 0} {R : K → K → Ordering} (total : IsTotalOrder R) (exact : set.IsAntisymmetric R) where
  same_key : (q k : K) → eq_by_cmp R q k ≡ true → q ≡ k
  same_key q k same = exact q k (equal (R q k) same)
    where
      equal : (o : Ordering) → is_eq o ≡ true → o ≡ Equal
      equal Less is = cc
      equal Equal is = refl
      equal Greater is = cc

  pub contains-insert_same : (s : set.FinSet R) (k : K) → set.contains (set.insert s k) k ≡ true
  contains-insert_same s k = set.contains-insert total s k k ∙ rw ((eq_by_cmp_equiv total).refl k) refl

  pub contains-remove_same : (s : set.FinSet R) (k : K) → set.contains (set.remove s k) k ≡ false
  contains-remove_same s k = set.contains-remove total s k k ∙ rw ((eq_by_cmp_equiv total).refl k) refl

  pub other_key : (q k : K) → q ≢ k → eq_by_cmp R q k ≡ false
  other_key q k differs = elim (cases_Bool (eq_by_cmp R q k)) [
    | inl same ↦ absurd (differs (same_key q k same))
    | inr other ↦ other
  ]

  pub contains-insert_other : (s : set.FinSet R) (k q : K) → q ≢ k → set.contains (set.insert s k) q ≡ set.contains s q
  contains-insert_other s k q differs = set.contains-insert total s k q ∙ rw (other_key q k differs) refl

  pub contains-remove_other : (s : set.FinSet R) (k q : K) → q ≢ k → set.contains (set.remove s k) q ≡ set.contains s q
  contains-remove_other s k q differs = set.contains-remove total s k q ∙ rw (other_key q k differs) refl

  -- two sets that are told by one key and by all others
  by_key : (s t : set.FinSet R) (k : K) → set.contains s k ≡ set.contains t k → ((q : K) → q ≢ k → set.contains s q ≡ set.contains t q) → s ≡ t
  by_key s t k here others = set.same_set total exact s t (λ q. elim (cases_Bool (eq_by_cmp R q k)) [
    | inl same ↦ rw (same_key q k same) here
    | inr other ↦ others q (λ is. let clash : true ≡ false = sym ((eq_by_cmp_equiv total).refl k) ∙ rw is at other in cc)
  ])

  pub insert_is : (s t : set.FinSet R) (k : K) → set.contains t k ≡ true → ((q : K) → q ≢ k → set.contains t q ≡ set.contains s q) → t ≡ set.insert s k
  insert_is s t k there others = by_key t (set.insert s k) k (there ∙ sym (contains-insert_same s k)) (λ q differs. others q differs ∙ sym (contains-insert_other s k q differs))

  pub remove_is : (s t : set.FinSet R) (k : K) → set.contains t k ≡ false → ((q : K) → q ≢ k → set.contains t q ≡ set.contains s q) → t ≡ set.remove s k
  remove_is s t k gone others = by_key t (set.remove s k) k (gone ∙ sym (contains-remove_same s k)) (λ q differs. others q differs ∙ sym (contains-remove_other s k q differs))

  pub remove-absent : (s : set.FinSet R) (k : K) → set.contains s k ≡ false → s ≡ set.remove s k
  remove-absent s k absent = remove_is s s k absent (λ q differs. refl)

  pub insert-there : (s : set.FinSet R) (k : K) → set.contains s k ≡ true → s ≡ set.insert s k
  insert-there s k there = insert_is s s k there (λ q differs. refl)

-- the orders of threads and of server connections
proc_total : IsTotalOrder proc_cmp
proc_total = then_total (on_total (λ p. p.user.0) nat_cmp_total) (on_total (λ p. p.num) nat_cmp_total)

pub thread_total : IsTotalOrder thread_cmp
thread_total = then_total (on_total (λ t. t.proc) proc_total) (on_total (λ t. t.tid) nat_cmp_total)

pub server_total : IsTotalOrder server_cmp
server_total = then_total (on_total (λ s. s.0) proc_total) (on_total (λ s. s.1) nat_cmp_total)

is_eq-then : (a b : Ordering) → is_eq (ordering_then a b) ≡ (is_eq a && is_eq b)
is_eq-then Less b = refl
is_eq-then Equal b = refl
is_eq-then Greater b = refl

is_eq-nat : (x y : ℕ) → is_eq (nat_cmp x y) ≡ (x == y)
is_eq-nat x y = grind (arith, nat_tests)

eq-three : (u v p q s t : ℕ) → is_eq (ordering_then (ordering_then (nat_cmp u v) (nat_cmp p q)) (nat_cmp s t)) ≡ ((u == v) && (p == q) && (s == t))
eq-three u v p q s t =
    is_eq-then (ordering_then (nat_cmp u v) (nat_cmp p q)) (nat_cmp s t)
    ∙ ap₂ (λ a b. a && b) (is_eq-then (nat_cmp u v) (nat_cmp p q) ∙ ap₂ (λ a b. a && b) (is_eq-nat u v) (is_eq-nat p q)) (is_eq-nat s t)

pub eq-thread : (one other : Thread) → eq_by_cmp thread_cmp one other ≡ is_same_thread one other
eq-thread one other = eq-three one.proc.user.0 other.proc.user.0 one.proc.num other.proc.num one.tid other.tid

pub eq-server : (proc other : Proc) (number at : ℕ) → eq_by_cmp server_cmp (proc, number) (other, at) ≡ is_same_server proc number other at
eq-server proc other number at = eq-three proc.user.0 other.user.0 proc.num other.num number at

pub thread_exact : set.IsAntisymmetric thread_cmp
thread_exact one other is = is_same_thread-same one other (sym (eq-thread one other) ∙ ap is_eq is)

-- a server connection is told as a thread of the same process and number
pub server_exact : set.IsAntisymmetric server_cmp
server_exact one other is =
    let same = is_same_thread-same (record { proc = one.0; tid = one.1 }) (record { proc = other.0; tid = other.1 }) (sym (eq-server one.0 other.0 one.1 other.1) ∙ ap is_eq is) in
    λ i. ((same i).proc, (same i).tid)

pub is_same_server-differs : (proc other : Proc) (number at : ℕ) → (other ≡ proc → at ≢ number) → is_same_server proc number other at ≡ false
is_same_server-differs proc other number at differs = sym (eq-server proc other number at) ∙ other_key server_total server_exact (proc, number) (other, at) (λ same. differs (λ i. (sym same i).0) (λ i. (sym same i).1))

or_swap : (a b : Bool) → (a || b) ≡ (b || a)
or_swap true true = refl
or_swap true false = refl
or_swap false true = refl
or_swap false false = refl

and_swap : (a b : Bool) → (a && b) ≡ (b && a)
and_swap true true = refl
and_swap true false = refl
and_swap false true = refl
and_swap false false = refl

-- who has nodes, once a thread or a server connection was added, or one was removed
pub has-thread : (s : set.FinSet thread_cmp) (thread other : Thread) → set.contains (set.insert s thread) other ≡ (set.contains s other || is_same_thread thread other)
has-thread s thread other = set.contains-insert thread_total s thread other ∙ rw ((eq_by_cmp_equiv thread_total).symm other thread, eq-thread thread other) (or_swap (is_same_thread thread other) (set.contains s other))

pub has-server : (s : set.FinSet server_cmp) (proc : Proc) (number : ℕ) (other : Proc) (at : ℕ) → set.contains (set.insert s (proc, number)) (other, at) ≡ (set.contains s (other, at) || is_same_server proc number other at)
has-server s proc number other at = set.contains-insert server_total s (proc, number) (other, at) ∙ rw ((eq_by_cmp_equiv server_total).symm (other, at) (proc, number), eq-server proc other number at) (or_swap (is_same_server proc number other at) (set.contains s (other, at)))

pub has-thread-removed : (s : set.FinSet thread_cmp) (thread other : Thread) → set.contains (set.remove s thread) other ≡ (set.contains s other && not (is_same_thread thread other))
has-thread-removed s thread other = set.contains-remove thread_total s thread other ∙ rw ((eq_by_cmp_equiv thread_total).symm other thread, eq-thread thread other) (and_swap (not (is_same_thread thread other)) (set.contains s other))

pub has-removed : (s : set.FinSet server_cmp) (proc : Proc) (number : ℕ) (other : Proc) (at : ℕ) → set.contains (set.remove s (proc, number)) (other, at) ≡ (set.contains s (other, at) && not (is_same_server proc number other at))
has-removed s proc number other at = set.contains-remove server_total s (proc, number) (other, at) ∙ rw ((eq_by_cmp_equiv server_total).symm (other, at) (proc, number), eq-server proc other number at) (and_swap (not (is_same_server proc number other at)) (set.contains s (other, at)))
