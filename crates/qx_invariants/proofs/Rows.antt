-- Rows under numbers: what a write leaves, which number is new, how many open control blocks an inode has, and what is left once an inode comes or goes.
use Rattle.std.proofs.Common.{◌≡◌, ◌≢◌, ◌⊎◌, inl, inr, ℕ, zero, suc, Bool, true, false, refl, sym, ap, ◌∙◌, subst, ◌<◌, ◌≤◌, ◌==◌, ◌&&◌, arith}
use Rattle.std.specs.Prelude.{List, [], ◌∷◌, Option, Some, None, Ok, Err, count_by, is_some, map, nat_le, not, if◌then◌else◌, option_map, slice_set, length}
use Rattle.std.specs.List.{list_any}
use Rattle.std.proofs.lemmas.Bool.{cases_eq, cond_both, leb-true}
use Rattle.std.proofs.lemmas.Option.{same_Some}
use Rattle.qx_base.specs.declared.errno.Errno.{Errno}
use Rattle.qx_base.specs.declared.errno.Errno.TheVariants.{ENFILE, ENOSPC}
use Rattle.qx_devices.specs.declared.Device.{Device}
use Rattle.qx_machine.specs.declared.rows.Kind.{Kind}
use Rattle.qx_machine.specs.declared.rows.Kind.TheVariants as kind
use Rattle.qx_machine.specs.declared.rows.Attribute.{Attribute}
use Rattle.qx_machine.specs.declared.rows.Ocb.{Ocb}
use Rattle.qx_machine.specs.declared.rows.WaitingCall.{WaitingCall}
use Rattle.qx_machine.specs.Clients.{with_abandoned}
use Rattle.qx_machine.specs.Defaults.{without_unused}
use Rattle.qx_machine.specs.Inodes.{Inodes, block_number, blocks_of, close_block, inode_number, is_open, is_unused}
use Rattle.qx_machine.specs.Names.{has_calls}
use Rattle.qx_machine.specs.PipeManager.{filled}
use Rattle.qx_machine.specs.Pipes.{PipeAfter, nobody_answered, pipe_of}
use Rattle.qx_machine.specs.Resources.{Resources, resized, with_empty, without_content}
use Rattle.qx_isolation.specs.Rows.{lowest_from, put_row, row_at, with_row}
use Rattle.qx_machine.specs.Waiting.{Pipes, is_written, offered}
use Rattle.qx_isolation.proofs.Places.{at-map, lowest_from_free, row_at-set_other, set-row_at}
use Rattle.qx_attr.specs.inner.Counts.{one}
use Rattle.qx_attr.proofs.CountLemmas.{count-free, count-put, count-same, counts_other, counts_own}
use Rattle.qx_iofunc.proofs.PlaceLemmas.{lowest_within, put_at, put_differ}
use Rattle.qx_invariants.specs.Changes.{IsMoved, touched}

module _ {A : Type 0} where
  pub some-is : (row : Option A) (value : A) → row ≡ Some value → is_some row ≡ true
  some-is row value is = ap is_some is

  -- there is a row
  pub the-some : (row : Option A) → is_some row ≡ true → (value : A) × (row ≡ Some value)
  the-some None is = absurd (cc)
  the-some (Some value) is = (value, refl)

  -- ---- a row changes, if it is there

  pub with_row-at : (places : List (Option A)) (n : ℕ) (change : A → A) → row_at (with_row places n change) n ≡ option_map change (row_at places n)
  with_row-at [] n change = refl
  with_row-at (place ∷ places) zero change = refl
  with_row-at (place ∷ places) (suc n) change = with_row-at places n change

  pub with_row-other : (places : List (Option A)) (n : ℕ) (change : A → A) (m : ℕ) → m ≢ n → row_at (with_row places n change) m ≡ row_at places m
  with_row-other places n change m apart = row_at-set_other places n m _ apart

  pub with_row-some : (places : List (Option A)) (n : ℕ) (change : A → A) (row : A) → row_at places n ≡ Some row → with_row places n change ≡ slice_set places n (Some (change row))
  with_row-some places n change row is = ap (λ place. slice_set places n (option_map change place)) is

  -- what is there afterwards was there, as it was or before its change
  pub with_row-was : (places : List (Option A)) (n : ℕ) (change : A → A) (m : ℕ) (now : A) → row_at (with_row places n change) m ≡ Some now → (was : A) × (row_at places m ≡ Some was) × (((m ≢ n) × (was ≡ now)) ⊎ ((m ≡ n) × (change was ≡ now)))
  with_row-was places n change m now there = elim (cases_eq m n) [
    | inl same ↦ by (row_at places n) refl (sym (with_row-at places n change) ∙ (ap (row_at (with_row places n change)) (sym same) ∙ there)) same
    | inr apart ↦ (now, sym (with_row-other places n change m apart) ∙ there, inl (apart, refl))
  ]
    where
      by : (row : Option A) → row_at places n ≡ row → option_map change (row_at places n) ≡ Some now → m ≡ n → (was : A) × (row_at places m ≡ Some was) × (((m ≢ n) × (was ≡ now)) ⊎ ((m ≡ n) × (change was ≡ now)))
      by None none is same = let clash : None ≡ Some now = sym (ap (option_map change) none) ∙ is in absurd (cc)
      by (Some was) row is same = (was, ap (row_at places) same ∙ row, inr (same, same_Some _ _ (sym (ap (option_map change) row) ∙ is)))

  -- as many rows are there
  pub with_row-some_at : (places : List (Option A)) (n : ℕ) (change : A → A) (m : ℕ) → is_some (row_at (with_row places n change) m) ≡ is_some (row_at places m)
  with_row-some_at [] n change m = refl
  with_row-some_at (None ∷ places) zero change zero = refl
  with_row-some_at (Some row ∷ places) zero change zero = refl
  with_row-some_at (place ∷ places) zero change (suc m) = refl
  with_row-some_at (place ∷ places) (suc n) change zero = refl
  with_row-some_at (place ∷ places) (suc n) change (suc m) = with_row-some_at places n change m

  -- what is there once it changed was there before
  pub mapped-was : (row : Option A) (change : A → A) (now : A) → option_map change row ≡ Some now → (was : A) × (row ≡ Some was) × (change was ≡ now)
  mapped-was None change now is = absurd (cc)
  mapped-was (Some was) change now is = (was, refl, same_Some _ _ is)

  -- ---- a row comes to a place, or is the next one

  pub put_other : (places : List (Option A)) (n : ℕ) (row : A) → n ≤ length places → (m : ℕ) → m ≢ n → row_at (put_row places n row) m ≡ row_at places m
  put_other places n row within = (put_differ places n row within).others

  -- what is there afterwards is what came, or was there
  pub put_cases : (places : List (Option A)) (n : ℕ) (row : A) → n ≤ length places → (m : ℕ) (now : A) → row_at (put_row places n row) m ≡ Some now → ((m ≡ n) × (row ≡ now)) ⊎ (row_at places m ≡ Some now)
  put_cases places n row within m now there = elim (cases_eq m n) [
    | inl same ↦ inl (same, same_Some _ _ (sym (put_at places n row within) ∙ (ap (row_at (put_row places n row)) (sym same) ∙ there)))
    | inr apart ↦ inr (sym (put_other places n row within m apart) ∙ there)
  ]

  -- what is there stays, where a row comes to a free place
  pub put_there : (places : List (Option A)) (n : ℕ) (row : A) (m : ℕ) (there : A) → n ≤ length places → row_at places n ≡ None → row_at places m ≡ Some there → row_at (put_row places n row) m ≡ Some there
  put_there places n row m there within free is = put_other places n row within m (λ same. let both : None ≡ Some there = sym free ∙ (ap (row_at places) (sym same) ∙ is) in absurd (cc)) ∙ is

-- ---- a new number

-- a new number is free, from 1 to the greatest, and in the table or the next one
pub record IsNew {A : Type 0} (rows : List (Option A)) (most number : ℕ) : Type 0 where
  pub free : row_at rows number ≡ None
  pub from : 1 ≤ number
  pub most_is : number ≤ most
  pub within : number ≤ length rows

module _ {A : Type 0} (rows : List (Option A)) (most number : ℕ) (some : 0 < length rows) (error : Errno) where
  new_number : (if nat_le (lowest_from 1 rows) most then Ok (lowest_from 1 rows) else Err error) ≡ Ok number → IsNew rows most number
  new_number is = by (nat_le (lowest_from 1 rows) most) refl is
    where
      by : (b : Bool) → nat_le (lowest_from 1 rows) most ≡ b → (if b then Ok (lowest_from 1 rows) else Err error) ≡ Ok number → IsNew rows most number
      by false e is = absurd (cc)
      by true e is =
          let same : lowest_from 1 rows ≡ number = cc in
          subst (IsNew rows most) same (record { free = lowest_from_free 1 rows; from = omega arith; most_is = leb-true (lowest_from 1 rows) most e; within = lowest_within rows some })

pub inode_is_new : (inodes : Inodes) (number : ℕ) → 0 < length inodes.attributes → inode_number inodes ≡ Ok number → IsNew inodes.attributes inodes.most_inodes number
inode_is_new inodes number some is = new_number inodes.attributes inodes.most_inodes number some ENOSPC is

pub block_is_new : (inodes : Inodes) (number : ℕ) → 0 < length inodes.blocks → block_number inodes ≡ Ok number → IsNew inodes.blocks inodes.most_blocks number
block_is_new inodes number some is = new_number inodes.blocks inodes.most_blocks number some ENFILE is

-- ---- how many open control blocks an inode has

module _ (inodes : Inodes) where
  -- as many as before, or more
  pub more_blocks : (number : ℕ) (block : Ocb) → row_at inodes.blocks number ≡ None → (m : ℕ) → blocks_of inodes m ≤ blocks_of (record inodes { blocks = put_row inodes.blocks number block }) m
  more_blocks number block free m = let put = count-put (is_open (λ flags. true) m) refl inodes.blocks number block free in omega (arith, put)

  -- an open control block that moved is of the same inode, and as many are
  module _ (number : ℕ) (change : Ocb → Ocb) (moved : (block : Ocb) → row_at inodes.blocks number ≡ Some block → IsMoved block (change block)) where
    pub same_open : (m : ℕ) (row : Option Ocb) → row_at inodes.blocks number ≡ row → is_open (λ flags. true) m (option_map change row) ≡ is_open (λ flags. true) m row
    same_open m None is = refl
    same_open m (Some block) is = ap (λ n. (n == m) && true) (moved block is).inode

    pub same_blocks : (m : ℕ) → blocks_of (record inodes { blocks = with_row inodes.blocks number change }) m ≡ blocks_of inodes m
    same_blocks m = by (row_at inodes.blocks number) refl
      where
        by : (row : Option Ocb) → row_at inodes.blocks number ≡ row → count_by (is_open (λ flags. true) m) (slice_set inodes.blocks number (option_map change row)) ≡ blocks_of inodes m
        by None is = ap (count_by (is_open (λ flags. true) m)) (ap (slice_set inodes.blocks number) (sym is) ∙ set-row_at inodes.blocks number)
        by (Some block) is = count-same (is_open (λ flags. true) m) refl inodes.blocks number block (change block) is (same_open m (Some block) is)

  pub other_blocks : (number : ℕ) (block : Ocb) → row_at inodes.blocks number ≡ Some block → (m : ℕ) → m ≢ block.inode → blocks_of (close_block inodes number) m ≡ blocks_of inodes m
  other_blocks number block is m apart =
      let freed = count-free (is_open (λ flags. true) m) refl inodes.blocks number block is in
      let none : one (is_open (λ flags. true) m (Some block)) ≡ 0 = ap one (counts_other (λ flags. true) block m apart) in
      omega (arith, freed, none)

  -- what has no open control block is not open
  pub not_open : (number : ℕ) (block : Ocb) → row_at inodes.blocks number ≡ Some block → blocks_of inodes block.inode ≡ 0 → ⊥
  not_open number block is none =
      let freed = count-free (is_open (λ flags. true) block.inode) refl inodes.blocks number block is in
      let own : one (is_open (λ flags. true) block.inode (Some block)) ≡ 1 = ap one (counts_own (λ flags. true) block block.inode refl) in
      omega (arith, freed, own, none)

-- ---- what is left

-- what is the same of an attribute of whatever size and times stays, once something was done to its pipe or device
pub filled-same : {A : Type 0} (moment : ℕ) (after : PipeAfter WaitingCall) (a : Attribute) (part : Attribute → A) → part (resized (length after.pipe.bytes) moment a) ≡ part a → part (record a { size = length after.pipe.bytes }) ≡ part a → part (filled moment after a) ≡ part a
filled-same moment after a part written other =
    cond_both (not (has_calls a.kind)) _ _ (λ now. part now ≡ part a) (λ is. refl)
    (λ is. cond_both (list_any (λ answer. is_written (offered answer.0) answer.1) after.answers) _ _ (λ now. part now ≡ part a) (λ is. written) (λ is. other))

pub filled-kind : (moment : ℕ) (after : PipeAfter WaitingCall) (a : Attribute) → (filled moment after a).kind ≡ a.kind
filled-kind moment after a = filled-same moment after a (λ (b : Attribute). b.kind) refl refl

-- its times are all that it is told by who was answered
pub filled-alike : (moment : ℕ) (after : PipeAfter WaitingCall) (a : Attribute) → (let now = filled moment after a in now ≡ touched now.mode now.mtime now.ctime (filled moment (nobody_answered after.pipe) a))
filled-alike moment after a = by (not (has_calls a.kind)) (list_any (λ answer. is_written (offered answer.0) answer.1) after.answers)
  where
    by : (other written : Bool) → (let size = length after.pipe.bytes in let now : Attribute = if other then a else if written then resized size moment a else record a { size = size } in
        now ≡ touched now.mode now.mtime now.ctime (if other then a else record a { size = size }))
    by true written = refl
    by false true = refl
    by false false = refl

-- each pipe and device changes as a process ends
pub abandoned-at : (process : ℕ) (pipes : Pipes) (inode : ℕ) → row_at (map (option_map (with_abandoned process)) pipes) inode ≡ option_map (with_abandoned process) (row_at pipes inode)
abandoned-at process pipes inode = at-map (option_map (with_abandoned process)) pipes inode None None refl

-- an inode is gone
abbrev pub freed : ℕ → Resources → Resources
freed inode r = record r { inodes = record r.inodes { attributes = slice_set r.inodes.attributes inode None } }

module _ (P : Resources → Type 0) where
  pub unused_cases : (own : Kind) (inode : ℕ) (r : Resources) → (is_unused r.inodes inode (row_at r.inodes.attributes inode) ≡ true → P (without_content own inode (freed inode r)))
      → (is_unused r.inodes inode (row_at r.inodes.attributes inode) ≡ false → P r) → P (without_unused own inode r)
  unused_cases own inode r gone stays = by (is_unused r.inodes inode (row_at r.inodes.attributes inode)) refl
    where
      by : (b : Bool) → is_unused r.inodes inode (row_at r.inodes.attributes inode) ≡ b
          → P (if b then without_content own inode (record r { inodes = if b then record r.inodes { attributes = slice_set r.inodes.attributes inode None } else r.inodes }) else r)
      by true e = gone e
      by false e = stays e

  pub content_cases : (own : Kind) (inode : ℕ) (r : Resources) → (own ≡ kind.File → P (record r { files = slice_set r.files inode None })) → (has_calls own ≡ true → P (record r { pipes = slice_set r.pipes inode None })) → (own ≡ kind.Directory → P r) → P (without_content own inode r)
  content_cases kind.File inode r file pipe directory = file refl
  content_cases kind.Pipe inode r file pipe directory = pipe refl
  content_cases (kind.Device device) inode r file pipe directory = pipe refl
  content_cases kind.Directory inode r file pipe directory = directory refl

  pub empty_cases : (which : Kind) (inode : ℕ) (r : Resources) → (which ≡ kind.File → P (record r { files = slice_set r.files inode (Some []) })) → ((device : Option Device) → P (record r { pipes = slice_set r.pipes inode (Some (pipe_of device [] [] [])) })) → (which ≡ kind.Directory → P r) → P (with_empty which inode r)
  empty_cases kind.File inode r file pipe directory = file refl
  empty_cases kind.Pipe inode r file pipe directory = pipe None
  empty_cases (kind.Device device) inode r file pipe directory = pipe (Some device)
  empty_cases kind.Directory inode r file pipe directory = directory refl
