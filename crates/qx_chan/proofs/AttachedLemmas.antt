-- What a message goes over.
use Rattle.std.proofs.Common.{◌≡◌, ◌≢◌, inl, inr, eq-eqb, ℕ, false, refl}
use Rattle.std.specs.Prelude.{◌==◌, is_none}
use Rattle.std.proofs.lemmas.Bool.{cond_both}
use Rattle.std.proofs.lemmas.Bool.Decides.{eqb_tells}
use Rattle.qx_types.specs.declared.names.Manager.{Manager}
use Rattle.qx_types.specs.declared.names.Proc.{Proc}
use Rattle.qx_machine.specs.declared.rows.Effect.{Effect}
use Rattle.qx_machine.specs.declared.rows.Effect.TheVariants.{Keeps, Opens, Closes}
use Rattle.qx_machine.specs.declared.rows.Over.{Over}
use Rattle.qx_machine.specs.declared.rows.Over.TheVariants.{New, Existing, Side}
use Rattle.qx_machine.specs.Processes.{Process, after_effect, after_error, after_reply, with_over}
use Rattle.qx_isolation.specs.Rows.{row_at}
use Rattle.qx_queues.specs.inner.Queues.{is_same_server}

pub eqb-differs : (n m : ℕ) → n ≢ m → (n == m) ≡ false
eqb-differs n m differs = elim (eqb_tells n m) [
  | inl same ↦ absurd (differs same.1)
  | inr apart ↦ apart.0
]

pub same_server-self : (proc : Proc) (number at : ℕ) → is_same_server proc number proc at ≡ (number == at)
same_server-self proc number at = rw (eq-eqb proc.user.0 proc.user.0 refl, eq-eqb proc.num proc.num refl) refl

-- what a message goes over is not its process' threads'

pub threads-connected : (thread : ℕ) (manager : Manager) (over : Over) (x : Process) → (with_over thread manager over x).threads ≡ x.threads
threads-connected thread manager (New coid) x = refl
threads-connected thread manager (Existing coid) x = refl
threads-connected thread manager Side x = cond_both {A = Process} (is_none (row_at x.sides thread)) _ _ (λ y. y.threads ≡ x.threads) (λ none. refl) (λ some. refl)

threads-done : (effect : Effect) (x : Process) → (after_effect effect x).threads ≡ x.threads
threads-done Keeps x = refl
threads-done (Opens coid block) x = refl
threads-done (Closes coid) x = refl

pub threads-replied : (thread : ℕ) (over : Over) (effect : Effect) (x : Process) → (after_reply thread over effect x).threads ≡ x.threads
threads-replied thread (New coid) effect x = threads-done effect x
threads-replied thread (Existing coid) effect x = threads-done effect x
threads-replied thread Side effect x = refl

pub threads-given_back : (thread : ℕ) (over : Over) (x : Process) → (after_error thread over x).threads ≡ x.threads
threads-given_back thread (New coid) x = refl
threads-given_back thread (Existing coid) x = refl
threads-given_back thread Side x = refl

-- nor is it what is kept of them

pub held-connected : (thread : ℕ) (manager : Manager) (over : Over) (x : Process) → (with_over thread manager over x).held ≡ x.held
held-connected thread manager (New coid) x = refl
held-connected thread manager (Existing coid) x = refl
held-connected thread manager Side x = cond_both {A = Process} (is_none (row_at x.sides thread)) _ _ (λ y. y.held ≡ x.held) (λ none. refl) (λ some. refl)

held-done : (effect : Effect) (x : Process) → (after_effect effect x).held ≡ x.held
held-done Keeps x = refl
held-done (Opens coid block) x = refl
held-done (Closes coid) x = refl

pub held-replied : (thread : ℕ) (over : Over) (effect : Effect) (x : Process) → (after_reply thread over effect x).held ≡ x.held
held-replied thread (New coid) effect x = held-done effect x
held-replied thread (Existing coid) effect x = held-done effect x
held-replied thread Side effect x = refl

pub held-given_back : (thread : ℕ) (over : Over) (x : Process) → (after_error thread over x).held ≡ x.held
held-given_back thread (New coid) x = refl
held-given_back thread (Existing coid) x = refl
held-given_back thread Side x = refl
