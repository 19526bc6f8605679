-- Clients of what is open: all that is open after a deed was open for the same client, or is new.
use Rattle.std.proofs.Common.{◌≡◌, ◌≢◌, ◌⊎◌, inl, inr, ℕ, List, [], ◌∷◌, refl, sym, ap, ◌∙◌, subst}
use Rattle.std.specs.Prelude.{Option, Some, None, option_map}
use Rattle.std.specs.List.{AllByRecursion}
use Rattle.std.proofs.lemmas.Bool.{cases_eq}
use Rattle.std.proofs.lemmas.Option.{same_Some}
use Rattle.qx_machine.specs.declared.rows.Client.{Client}
use Rattle.qx_machine.specs.declared.rows.Context.{Context}
use Rattle.qx_machine.specs.declared.rows.Ocb.{Ocb}
use Rattle.qx_machine.specs.Resources.{Resources}
use Rattle.qx_isolation.specs.Rows.{row_at}
use Rattle.qx_invariants.specs.Changes.{Comes, ResourceChange}
use Rattle.qx_invariants.proofs.Holdings.{Holding, after_seen, holding, one_less, one_more}
use Rattle.qx_invariants.proofs.Told.{IsMadeThere}

-- whose it is
abbrev pub client_of : Holding → Client
client_of hold = hold.client

-- what is open for the same client as before was open for it
pub was_client : (row now : Option Ocb) (block : Ocb) → now ≡ Some block → option_map client_of (holding now) ≡ option_map client_of (holding row) → (was : Ocb) × (row ≡ Some was) × (was.client ≡ block.client)
was_client None now block is same = let clash : Some block.client ≡ None = sym (ap (λ place. option_map client_of (holding place)) is) ∙ same in absurd (cc)
was_client (Some was) now block is same = (was, refl, same_Some _ _ (sym same ∙ ap (λ place. option_map client_of (holding place)) is))

-- all that is open then was open for the same client, or is new
abbrev pub ClientsStay : Resources → Resources → Type 0
ClientsStay first r = (which : ℕ) (block : Ocb) → row_at r.inodes.blocks which ≡ Some block → ((was : Ocb) × (row_at first.inodes.blocks which ≡ Some was) × (was.client ≡ block.client)) ⊎ (row_at first.inodes.blocks which ≡ None)

pub same_stay : (first r : Resources) → ((which : ℕ) → holding (row_at r.inodes.blocks which) ≡ holding (row_at first.inodes.blocks which)) → ClientsStay first r
same_stay first r rows which block at = inl (was_client (row_at first.inodes.blocks which) (row_at r.inodes.blocks which) block at (ap (option_map client_of) (rows which)))

pub one_stays : (first r : Resources) (n : ℕ) → ((m : ℕ) → m ≢ n → holding (row_at r.inodes.blocks m) ≡ holding (row_at first.inodes.blocks m))
    → ((block : Ocb) → row_at r.inodes.blocks n ≡ Some block → ((was : Ocb) × (row_at first.inodes.blocks n ≡ Some was) × (was.client ≡ block.client)) ⊎ (row_at first.inodes.blocks n ≡ None)) → ClientsStay first r
one_stays first r n others own which block at = elim (cases_eq which n) [
  | inl same ↦
      subst (λ m. ((was : Ocb) × (row_at first.inodes.blocks m ≡ Some was) × (was.client ≡ block.client)) ⊎ (row_at first.inodes.blocks m ≡ None)) (sym same) (own block (ap (row_at r.inodes.blocks) (sym same) ∙ at))
  | inr apart ↦ inl (was_client (row_at first.inodes.blocks which) (row_at r.inodes.blocks which) block at (ap (option_map client_of) (others which apart)))
]

-- one more connection, or one less, is the same client's
pub more_client : (row : Option Ocb) → option_map client_of (option_map one_more (holding row)) ≡ option_map client_of (holding row)
more_client None = refl
more_client (Some block) = refl

pub less_client : (row : Option Ocb) → option_map client_of (option_map one_less (holding row)) ≡ option_map client_of (holding row)
less_client None = refl
less_client (Some block) = refl

-- what was made opens nothing
pub made_seen : (context : Context) (seen : List ResourceChange) → AllByRecursion (IsMadeThere context) seen → (number : ℕ) (before : Option Holding) → after_seen seen number before ≡ before
made_seen context [] made number before = refl
made_seen context (Comes inode directory name kind mode moment ∷ seen) made number before = made_seen context seen made.1 number before
made_seen context (_ ∷ seen) made number before = absurd made.0
