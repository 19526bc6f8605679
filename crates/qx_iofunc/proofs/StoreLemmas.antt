-- What each change leaves of how names, inodes and the bytes of files stand together.
use Rattle.std.proofs.Common.{◌≡◌, ◌≢◌, inl, inr, ℕ, suc, ◌+◌, ◌<◌, ◌≤◌, ◌&&◌, Bool, true, false, List, [], length, le-leb, refl, sym, ap, ◌∙◌, subst, arith, Option, Some, None, Result, Ok, Err, IfOk, IsSome, option_map, replicate, slice_set}
use Rattle.std.specs.FinMap.{empty, get, insert, remove}
use Rattle.std.specs.Prelude.{◌-◌, OnErr, nat_lt, is_some, if◌then◌else◌}
use Rattle.std.specs.Result.{result_map_both}
use Rattle.std.proofs.Math.ListN.{length-set}
use Rattle.qx_attr.proofs.TableLemmas.{number_given}
use Rattle.std.proofs.lemmas.List.{length-replicate}
use Rattle.qx_attr.proofs.CountLemmas.{row-set_same, within_table}
use Rattle.qx_attr.proofs.TableLemmas.{row-put}
use Rattle.qx_attr.specs.Counts.{Reserved, with_number}
use Rattle.qx_iofunc.proofs.FitLemmas as of_names
use Rattle.qx_iofunc.proofs.PlaceLemmas.{Differ, by_place, lowest_within, put_at, put_differ, row-freed, same_differ, set_at, set_differ, with_row-at}
use Rattle.qx_iofunc.specs.Fits.{AreSized, Fits, IsLinked, NamesFit, file_size, is_file}
use Rattle.qx_iofunc.specs.inner.Fits.{NamesFitBut}
use Rattle.qx_iofunc.specs.Store.{Stored, block_gone, boot_store, files_without, unused_gone, with_mount_root, with_stored}
use Rattle.qx_iofunc.specs.inner.Store.{files_with, name_gone, name_taken, with_made, with_resized, with_truncated}
use Rattle.qx_machine.proofs.Gives.{Gives, gives_done, gives_on, gives-value}
use Rattle.qx_isolation.proofs.Places.{lowest_from_free}
use Rattle.qx_machine.specs.declared.rows.Attribute.{Attribute}
use Rattle.qx_machine.specs.declared.rows.Kind.{Kind}
use Rattle.qx_machine.specs.declared.rows.Kind.TheVariants.{File}
use Rattle.qx_machine.specs.declared.rows.Ocb.{Ocb}
use Rattle.qx_machine.specs.Attributes.{root_attribute}
use Rattle.qx_machine.specs.Defaults.{with_entries_changed, is_own, own_block, unnamed}
use Rattle.qx_machine.specs.Files.{Files, no_files, size_of}
use Rattle.qx_machine.specs.Inodes.{Inodes, Numbered, block_number, dup_block, has, inode_number, is_unused, new_attribute, new_inode, no_inodes, with_attribute, without_use, writes}
use Rattle.qx_isolation.specs.Judgements.{◌>>=◌, found, need}
use Rattle.qx_machine.specs.Names.{Key, Names, Spot, root_key}
use Rattle.qx_machine.specs.RamManager.{emptied, with_bytes}
use Rattle.qx_machine.specs.Resources.{Resources, resized}
use Rattle.qx_isolation.specs.Rows.{lowest_from, put_row, row_at, with_row}
use Rattle.qx_names.specs.Paths.{HasNoPath}
use Rattle.qx_rows.proofs.RowLemmas.{with_row-none}
use Rattle.qx_base.specs.declared.errno.Errno.{Errno}
use Rattle.qx_base.specs.declared.errno.Errno.TheVariants.{EBADF, EMFILE, ENOSPC}
use Rattle.qx_types.specs.UserLimits.{AreLimits, UserLimits}
use Rattle.qx_types.specs.declared.flags.OFlags.{OFlags}
use Rattle.qx_types.specs.declared.flags.TheConstants.OFlags.{TRUNC}
use Rattle.qx_types.specs.declared.limits.TheConstants.Limits.{INODES, LAST_CONNECTION}

-- a store stands together
abbrev pub StoreFits : Stored → Type 0
StoreFits s = Fits s.inodes s.names s.files

-- how many bytes stand under a number
abbrev bytes_at : Files → ℕ → Option ℕ
bytes_at files inode = option_map (λ bytes. length bytes) (row_at files inode)

-- what has no size has no bytes
unsized : (bytes : Option (List ℕ)) → option_map (λ bytes. length bytes) bytes ≡ None → bytes ≡ None
unsized None e = refl
unsized (Some bytes) e = absurd (cc)

-- nor has what has no inode
no_bytes : (inodes : Inodes) (files : Files) (inode : ℕ) → AreSized inodes files → row_at inodes.attributes inode ≡ None → row_at files inode ≡ None
no_bytes inodes files inode sized free = unsized (row_at files inode) (sized inode ∙ ap file_size free)

-- what stands under one number changes
sized_but : (inodes now : Inodes) (files left : Files) (inode : ℕ) → Differ inodes.attributes now.attributes inode → Differ files left inode → bytes_at left inode ≡ file_size (row_at now.attributes inode) → AreSized inodes files → AreSized now left
sized_but inodes now files left inode rows bytes here sized =
    by_place (λ n. bytes_at left n ≡ file_size (row_at now.attributes n)) inode here
    (λ other apart. ap (option_map (λ bytes. length bytes)) (bytes.others other apart) ∙ (sized other ∙ ap file_size (sym (rows.others other apart))))

fits_but : (inodes now : Inodes) (names : Names) (files left : Files) (inode : ℕ) → NamesFit now names → Differ inodes.attributes now.attributes inode → Differ files left inode → bytes_at left inode ≡ file_size (row_at now.attributes inode) → AreSized inodes files → now.most_inodes < length files
    → Fits now names left
fits_but inodes now names files left inode named rows bytes here sized room =
    let longer = bytes.longer in
    record { named = named; sized = sized_but inodes now files left inode rows bytes here sized; room = omega (arith, longer, room) }

-- an attribute changes, and neither its links nor its size
pub kept_fits : (inodes : Inodes) (names : Names) (files : Files) (inode : ℕ) (was now : Attribute) → row_at inodes.attributes inode ≡ Some was → now.links ≡ was.links → file_size (Some now) ≡ file_size (Some was) → Fits inodes names files
    → Fits (with_attribute inodes inode now) names files
kept_fits inodes names files inode was now is links size fits =
    fits_but inodes (with_attribute inodes inode now) names files files inode (of_names.attribute_fits inodes names inode was now is links fits.named) (set_differ inodes.attributes inode (Some now)) (same_differ files inode)
    (fits.sized inode ∙ (ap file_size is ∙ (sym size ∙ ap file_size (sym (row-set_same inodes.attributes inode was now is))))) fits.sized fits.room

-- ---- the number of the next inode

number_is : (inodes : Inodes) (number : ℕ) → inode_number inodes ≡ Ok number → (number ≡ lowest_from 1 inodes.attributes) × (number ≤ inodes.most_inodes)
number_is inodes number is = number_given inodes.most_inodes (lowest_from 1 inodes.attributes) ENOSPC number is

pub number_free : (inodes : Inodes) (number : ℕ) → inode_number inodes ≡ Ok number → row_at inodes.attributes number ≡ None
number_free inodes number is = ap (row_at inodes.attributes) (number_is inodes number is).0 ∙ lowest_from_free 1 inodes.attributes

-- no path leads there, and it has no bytes
pub number_fresh : (s : Stored) (number : ℕ) → inode_number s.inodes ≡ Ok number → StoreFits s → HasNoPath s.names number × (row_at s.files number ≡ None)
number_fresh s number is fits =
    let free = number_free s.inodes number is in
    (of_names.unnamed_free s.inodes s.names fits.named number free, no_bytes s.inodes s.files number fits.sized free)

number_within : (inodes : Inodes) (number : ℕ) → 0 < length inodes.attributes → inode_number inodes ≡ Ok number → number ≤ length inodes.attributes
number_within inodes number some is = subst (λ n. n ≤ length inodes.attributes) (sym (number_is inodes number is).0) (lowest_within inodes.attributes some)

-- the inode that is made, where room was made before
pub made_from : (inodes reserved now : Inodes) (attribute : Attribute) (number : ℕ) → reserved ≡ inodes → inode_number inodes ≡ Ok number → with_number now (Ok number) ≡ new_inode reserved attribute
    → now ≡ record inodes { attributes = put_row inodes.attributes number attribute }
made_from inodes reserved now attribute number same is made = ap inodes_of (rw is at (subst (λ (from : Inodes). with_number now (Ok number) ≡ new_inode from attribute) same made))
  where
    inodes_of : Result Numbered Errno → Inodes
    inodes_of (Ok one) = one.inodes
    inodes_of (Err error) = inodes

-- whatever is there stays there
pub still_there : {A : Type 0} (rows : List (Option A)) (n : ℕ) (row : A) → row_at rows n ≡ None → (other : ℕ) → IsSome (row_at rows other) → IsSome (row_at (put_row rows n row) other)
still_there rows n row free other there = elim (row-put rows n row free other) [ inl same ↦ subst IsSome (sym same) there | inr put ↦ rw put.0 refl ]

-- ---- an inode comes, with a name

module _ (inodes : Inodes) (names : Names) (files : Files) (inode : ℕ) (is : inode_number inodes ≡ Ok inode) (fits : Fits inodes names files) where
  -- with the bytes of what it is
  inode_named_fits : (attribute : Attribute) → attribute.links ≡ 1 → (key : Key) (left : Files) → Differ files left inode → bytes_at left inode ≡ file_size (Some attribute)
      → Fits (record inodes { attributes = put_row inodes.attributes inode attribute }) (insert names key inode) left
  inode_named_fits attribute linked key left bytes here =
      let now : Inodes = record inodes { attributes = put_row inodes.attributes inode attribute } in
      let inside = number_within inodes inode fits.named.places is in
      let there = put_at inodes.attributes inode attribute inside in
      let one : IsLinked (Some attribute) = omega (arith, linked) in
      fits_but inodes now (insert names key inode) files left inode
      (of_names.name_fits now names key inode (subst IsLinked (sym there) one) (of_names.inode_fits inodes names inode attribute inside linked fits.named))
      (put_differ inodes.attributes inode attribute inside) bytes (here ∙ ap file_size (sym there)) fits.sized fits.room

  no_file : bytes_at files inode ≡ None
  no_file = ap (option_map (λ bytes. length bytes)) (no_bytes inodes files inode fits.sized (number_free inodes inode is))

  new_fits : (key : Key) (kind : Kind) (mode owner moment : ℕ)
      → Fits (record inodes { attributes = put_row inodes.attributes inode (new_attribute kind mode owner moment) }) (insert names key inode) (files_with kind inode files)
  new_fits key File mode owner moment =
      let few = (number_is inodes inode is).1 in
      let room = fits.room in
      inode_named_fits (new_attribute File mode owner moment) refl key (slice_set files inode (Some [])) (set_differ files inode (Some []))
      (ap (option_map (λ bytes. length bytes)) (set_at files inode [] (omega (arith, few, room))))
  new_fits key kind mode owner moment = inode_named_fits (new_attribute kind mode owner moment) refl key files (same_differ files inode) no_file

-- the root of a mount
pub root_fits : (root : ℕ) (s : Stored) → inode_number s.inodes ≡ Ok root → StoreFits s → StoreFits (with_mount_root root s)
root_fits root s is fits =
    inode_named_fits s.inodes s.names s.files root is fits (root_attribute s.user) refl (root_key root) s.files (same_differ s.files root) (no_file s.inodes s.names s.files root is fits)

-- what is made in a directory
module _ (s : Stored) (at : Spot) (inode : ℕ) (parent : Attribute) (kind : Kind) (mode moment : ℕ) (is : inode_number s.inodes ≡ Ok inode) (parent_is : row_at s.inodes.attributes at.parent ≡ Some parent) (fits : StoreFits s) where
  -- its number is not the directory's
  apart : inode ≢ at.parent
  apart same = let clash : None ≡ Some parent = sym (number_free s.inodes inode is) ∙ (ap (row_at s.inodes.attributes) same ∙ parent_is) in absurd (cc)

  inside : inode ≤ length s.inodes.attributes
  inside = number_within s.inodes inode fits.named.places is

  pub made_fits : StoreFits (with_made at inode parent kind mode moment s)
  made_fits =
      kept_fits (record s.inodes { attributes = put_row s.inodes.attributes inode (new_attribute kind mode s.user moment) }) (insert s.names at.key inode) (files_with kind inode s.files) at.parent parent (with_entries_changed moment parent)
      ((put_differ s.inodes.attributes inode (new_attribute kind mode s.user moment) inside).others at.parent (λ same. apart (sym same)) ∙ parent_is) refl refl
      (new_fits s.inodes s.names s.files inode is fits at.key kind mode s.user moment)

  pub made_there : IsSome (row_at (with_made at inode parent kind mode moment s).inodes.attributes inode)
  made_there =
      let made = put_at s.inodes.attributes inode (new_attribute kind mode s.user moment) inside in
      rw ((set_differ (put_row s.inodes.attributes inode (new_attribute kind mode s.user moment)) at.parent (Some (with_entries_changed moment parent))).others inode apart, made) refl

-- ---- before anything is made

pub row_at-none : {A : Type 0} (count n : ℕ) → row_at (replicate {A = Option A} count None) n ≡ None
row_at-none (suc count) (suc n) = row_at-none count n
row_at-none count n = refl

one_more : (count : ℕ) → count < length (replicate {A = Option (List ℕ)} (count + 1) None)
one_more count = let long = length-replicate {A = Option (List ℕ)} (count + 1) None in omega (arith, long)

none_fit : (limits : UserLimits) → AreLimits limits → Fits (no_inodes limits) empty no_files
none_fit limits within = record {
  named = of_names.none_fit limits;
  sized = λ inode. ap (option_map (λ bytes. length bytes)) (row_at-none (INODES + 1) inode) ∙ ap file_size (sym (of_names.none_there limits inode));
  room = let few = within.inodes.1 in let more = one_more INODES in omega (arith, few, more);
}

-- the root of the top gets the number 1
pub first_inode : (limits : UserLimits) → AreLimits limits → inode_number (no_inodes limits) ≡ Ok 1
first_inode limits within = ap (λ b. if b then Ok 1 else Err ENOSPC) (le-leb 1 limits.inodes within.inodes.0)

pub boot_fits : (limits : UserLimits) → AreLimits limits → (user : ℕ) → StoreFits (boot_store limits user)
boot_fits limits within user = root_fits 1 (record { user = user; inodes = no_inodes limits; names = empty; files = no_files; limits = limits }) (first_inode limits within) (none_fit limits within)

-- ---- a file gets other bytes

-- so these are the resources with other bytes in the file
pub changed_is : (r : Resources) (inode size moment : ℕ) (change : List ℕ → List ℕ) (s : Stored) (bytes : List ℕ) → row_at s.files inode ≡ Some bytes → size ≡ size_of (row_at (with_row s.files inode change) inode)
    → with_stored r (record (with_resized inode size moment s) { files = with_row s.files inode change }) ≡ with_bytes inode moment (change bytes) (with_stored r s)
changed_is r inode size moment change s bytes is long =
    let same : size ≡ length (change bytes) = long ∙ ap size_of (with_row-at s.files inode change ∙ ap (option_map change) is) in
    rw (same, is) refl

-- what stands under a number changes, if it is a file, and its inode has that size
pub changed_fits : (inode size moment : ℕ) (change : List ℕ → List ℕ) (s : Stored) → size ≡ size_of (row_at (with_row s.files inode change) inode) → StoreFits s → StoreFits (record (with_resized inode size moment s) { files = with_row s.files inode change })
changed_fits inode size moment change s long fits =
    fits_but s.inodes (with_resized inode size moment s).inodes s.names s.files (with_row s.files inode change) inode (named (row_at s.inodes.attributes inode) refl)
    (set_differ s.inodes.attributes inode (option_map (resized size moment) (row_at s.inodes.attributes inode))) (set_differ s.files inode (option_map change (row_at s.files inode)))
    (ap (option_map (λ bytes. length bytes)) (with_row-at s.files inode change)
    ∙ (here (row_at s.files inode) (row_at s.inodes.attributes inode) (long ∙ ap size_of (with_row-at s.files inode change)) (fits.sized inode)
    ∙ ap file_size (sym (with_row-at s.inodes.attributes inode (resized size moment))))) fits.sized fits.room
  where
    by_kind : (bytes : Option (List ℕ)) (file : Bool) (was : ℕ) → size ≡ size_of (option_map change bytes) → option_map (λ bytes. length bytes) bytes ≡ (if file then Some was else None)
        → option_map (λ bytes. length bytes) (option_map change bytes) ≡ (if file then Some size else None)
    by_kind (Some before) true was long had = cc
    by_kind None false was long had = refl
    by_kind bytes file was long had = absurd (cc)

    here : (bytes : Option (List ℕ)) (row : Option Attribute) → size ≡ size_of (option_map change bytes) → option_map (λ bytes. length bytes) bytes ≡ file_size row
        → option_map (λ bytes. length bytes) (option_map change bytes) ≡ file_size (option_map (resized size moment) row)
    here None None long had = refl
    here (Some before) None long had = absurd (cc)
    here bytes (Some was) long had = by_kind bytes (is_file was.kind) was.size long had

    named : (row : Option Attribute) → row_at s.inodes.attributes inode ≡ row → NamesFit (with_resized inode size moment s).inodes s.names
    named None is = rw (with_row-none s.inodes.attributes inode (resized size moment) is) fits.named
    named (Some was) is = rw is (of_names.attribute_fits s.inodes s.names inode was (resized size moment was) is refl fits.named)

-- a file is made empty
truncated_fits : (s : Stored) (inode moment : ℕ) → StoreFits s → StoreFits (with_truncated inode moment s)
truncated_fits s inode moment fits = by_file (row_at s.files inode) refl
  where
    by_file : (bytes : Option (List ℕ)) → row_at s.files inode ≡ bytes → StoreFits (if is_some bytes then record (with_resized inode 0 moment s) { files = slice_set s.files inode (Some []) } else s)
    by_file None has = fits
    by_file (Some before) has = rw has at (changed_fits inode 0 moment (λ bytes. []) s (sym (ap size_of (with_row-at s.files inode (λ bytes. []) ∙ ap (option_map (λ bytes. [])) has))) fits)

-- ---- by an open for writing with TRUNC

abbrev pub emptied_in : OFlags → ℕ → ℕ → Stored → Stored
emptied_in flags inode moment s = if has flags TRUNC && writes flags then with_truncated inode moment s else s

module _ (flags : OFlags) (inode moment : ℕ) (s : Stored) where
  pub emptied_fits : StoreFits s → StoreFits (emptied_in flags inode moment s)
  emptied_fits fits = elim (has flags TRUNC && writes flags) as (λ empties. StoreFits (if empties then with_truncated inode moment s else s)) [ true ↦ truncated_fits s inode moment fits | false ↦ fits ]

  -- it is empty, or all is as it was
  by_emptied : (P : Stored → Type 0) → P s → P (record (with_resized inode 0 moment s) { files = slice_set s.files inode (Some []) }) → P (emptied_in flags inode moment s)
  by_emptied P kept empty = by_tests (has flags TRUNC && writes flags) (is_some (row_at s.files inode))
    where
      by_tests : (empties file : Bool) → P (if empties then (if file then record (with_resized inode 0 moment s) { files = slice_set s.files inode (Some []) } else s) else s)
      by_tests true true = empty
      by_tests empties file = kept

  pub emptied_is : (r : Resources) → emptied flags inode moment (with_stored r s) ≡ with_stored r (emptied_in flags inode moment s)
  emptied_is r = by_tests (has flags TRUNC) (writes flags) (is_some (row_at s.files inode))
    where
      by_tests : (truncates writing file : Bool) → (if truncates && writing && file then with_bytes inode moment [] (with_stored r s) else with_stored r s)
          ≡ with_stored r (if truncates && writing then (if file then record (with_resized inode 0 moment s) { files = slice_set s.files inode (Some []) } else s) else s)
      by_tests true true true = refl
      by_tests truncates writing file = refl

  -- what is there stays, and the next number is free as before
  pub emptied_there : IsSome (row_at s.inodes.attributes inode) → IsSome (row_at (emptied_in flags inode moment s).inodes.attributes inode)
  emptied_there there = by_emptied (λ now. IsSome (row_at now.inodes.attributes inode)) there (rw (with_row-at s.inodes.attributes inode (resized 0 moment)) (by_row (row_at s.inodes.attributes inode) there))
    where
      by_row : (row : Option Attribute) → IsSome row → IsSome (option_map (resized 0 moment) row)
      by_row None some = absurd (cc)
      by_row (Some attribute) some = refl

  pub emptied_number : (block : ℕ) → block_number s.inodes ≡ Ok block → block_number (emptied_in flags inode moment s).inodes ≡ Ok block
  emptied_number block free = by_emptied (λ now. block_number now.inodes ≡ Ok block) free free

-- ---- an open control block changes, and keeps its inode

module _ (all : Reserved) (names : Names) (files : Files) (number : ℕ) (fits : Fits all.inodes names files) where
  pub block_changed_fits : (change : Ocb → Ocb) → ((block : Ocb) → (change block).inode ≡ block.inode) → Fits (record all.inodes { blocks = with_row all.inodes.blocks number change }) names files
  block_changed_fits change same_inode = record { named = of_names.block_changed_fits all.inodes names number change same_inode fits.named; sized = fits.sized; room = fits.room }

  -- one more connection has it
  dup-gives : Gives (λ now. Fits now names files) (dup_block all.inodes number)
  dup-gives =
      gives_on _ (found (row_at all.inodes.blocks number) EBADF) _ (λ there has.
      gives_on _ (need (nat_lt there.uses LAST_CONNECTION) EMFILE) _ (λ few is_few.
      gives_done _ _ (block_changed_fits (λ block. record block { uses = block.uses + 1 }) (λ block. refl))))

  pub dup_fits : (now : Reserved) (given : Result (Unit {0}) Errno) → result_map_both (λ _. now.inodes) (λ error. error) given ≡ dup_block all.inodes number → OnErr given (now ≡ all) → Fits now.inodes names files
  dup_fits now (Ok done) is kept = gives-value (λ now. Fits now names files) (dup_block all.inodes number) now.inodes (sym is) dup-gives
  dup_fits now (Err error) is kept = subst (λ (left : Reserved). Fits left.inodes names files) (sym kept) fits

  -- one connection less has it, if others do
  pub close_dup_fits : (shared : Bool) → Fits (if shared then record all { inodes = without_use all.inodes number } else all).inodes names files
  close_dup_fits true = block_changed_fits (λ block. record block { uses = block.uses - 1 }) (λ block. refl)
  close_dup_fits false = fits

-- ---- what is a manager's own goes

-- an inode is a manager's own
pub record IsOwn (attributes : List (Option Attribute)) (own : Kind) (inode : ℕ) : Type 0 where
  pub attribute : Attribute
  pub there : row_at attributes inode ≡ Some attribute
  pub mine : is_own own attribute.kind ≡ true

-- so is that of a block
pub own_is : (inodes : Inodes) (number : ℕ) (own : Kind) (block : Ocb) → own_block inodes number own ≡ Ok block → (row_at inodes.blocks number ≡ Some block) × IsOwn inodes.attributes own block.inode
own_is inodes number own block is = subst Owned is (by_block (row_at inodes.blocks number) refl)
  where
    Owned : Result Ocb Errno → Type 0
    Owned own_one = IfOk own_one (λ it. (row_at inodes.blocks number ≡ Some it) × IsOwn inodes.attributes own it.inode)

    by_kind : (there : Ocb) (attribute : Attribute) (mine : Bool) → row_at inodes.blocks number ≡ Some there → row_at inodes.attributes there.inode ≡ Some attribute → is_own own attribute.kind ≡ mine → Owned (need mine EBADF >>= (λ _. Ok there))
    by_kind there attribute true b a m = (b, record { attribute = attribute; there = a; mine = m })
    by_kind there attribute false b a m = tt

    by_row : (there : Ocb) (row : Option Attribute) → row_at inodes.blocks number ≡ Some there → row_at inodes.attributes there.inode ≡ row → Owned (found row EBADF >>= (λ attribute. need (is_own own attribute.kind) EBADF >>= (λ _. Ok there)))
    by_row there None b a = tt
    by_row there (Some attribute) b a = by_kind there attribute (is_own own attribute.kind) b a refl

    by_block : (there : Option Ocb) → row_at inodes.blocks number ≡ there
        → Owned (found there EBADF >>= (λ there. found (row_at inodes.attributes there.inode) EBADF >>= (λ attribute. need (is_own own attribute.kind) EBADF >>= (λ _. Ok there))))
    by_block None b = tt
    by_block (Some there) b = by_row there (row_at inodes.attributes there.inode) b refl

-- only the manager of files has files of its own
own_size : (own : Kind) (attribute : Attribute) → is_own own attribute.kind ≡ true → own ≢ File → file_size (Some attribute) ≡ None
own_size own attribute mine other = by_kind own attribute.kind mine other
  where
    by_kind : (own kind : Kind) → is_own own kind ≡ true → own ≢ File → (if is_file kind then Some attribute.size else None) ≡ None
    by_kind File kind e other = absurd (other refl)
    by_kind own File e other = absurd (cc)
    by_kind own kind e other = refl

-- where one inode may be neither named nor open, and is a manager's own, that goes
gone_fits : (own : Kind) (inode : ℕ) (s : Stored) → NamesFitBut s.inodes s.names inode → IsOwn s.inodes.attributes own inode → AreSized s.inodes s.files → s.inodes.most_inodes < length s.files → StoreFits (unused_gone own inode s)
gone_fits own inode s named mine sized room = by_test (is_unused s.inodes inode (row_at s.inodes.attributes inode)) (of_names.freed_fits s.inodes s.names inode named)
  where
    gone : (left : Files) → Differ s.files left inode → row_at left inode ≡ None → NamesFit (record s.inodes { attributes = slice_set s.inodes.attributes inode None }) s.names → Fits (record s.inodes { attributes = slice_set s.inodes.attributes inode None }) s.names left
    gone left bytes none fits =
        fits_but s.inodes (record s.inodes { attributes = slice_set s.inodes.attributes inode None }) s.names s.files left inode fits (set_differ s.inodes.attributes inode None) bytes
        (ap (option_map (λ bytes. length bytes)) none ∙ ap file_size (sym (row-freed s.inodes.attributes inode))) sized room

    by_own : (manager : Kind) → own ≡ manager → NamesFit (record s.inodes { attributes = slice_set s.inodes.attributes inode None }) s.names → Fits (record s.inodes { attributes = slice_set s.inodes.attributes inode None }) s.names (files_without manager inode s.files)
    by_own File is = gone (slice_set s.files inode None) (set_differ s.files inode None) (row-freed s.files inode)
    by_own manager is = gone s.files (same_differ s.files inode) (unsized (row_at s.files inode) (sized inode ∙ (ap file_size mine.there ∙ own_size own mine.attribute mine.mine (λ file. absurd (cc)))))

    by_test : (unused : Bool) → NamesFit (if unused then record s.inodes { attributes = slice_set s.inodes.attributes inode None } else s.inodes) s.names
        → StoreFits (if unused then record s { inodes = if unused then record s.inodes { attributes = slice_set s.inodes.attributes inode None } else s.inodes; files = files_without own inode s.files } else s)
    by_test false fits = record { named = fits; sized = sized; room = room }
    by_test true fits = by_own own refl fits

-- an open control block goes, and what was open with it, if that was all that kept it
pub closed_fits : (own : Kind) (number : ℕ) (block : Ocb) (s : Stored) → row_at s.inodes.blocks number ≡ Some block → IsOwn s.inodes.attributes own block.inode → StoreFits s → StoreFits (unused_gone own block.inode (block_gone number s))
closed_fits own number block s is mine fits =
    gone_fits own block.inode (block_gone number s) (of_names.closed_but s.inodes s.names number block is fits.named) mine fits.sized fits.room

-- an inode loses its name and goes, unless it is open
pub taken_fits : (own : Kind) (key : Key) (inode : ℕ) (attribute : Attribute) (moment : ℕ) (s : Stored) → inode < length s.inodes.attributes → bytes_at s.files inode ≡ file_size (Some attribute) → is_own own attribute.kind ≡ true
    → ((other : Key) → get (remove s.names key) other ≡ Some inode → ⊥) → StoreFits s → StoreFits (name_taken own key inode attribute moment s)
taken_fits own key inode attribute moment s within bytes mine gone fits =
    let at = set_at s.inodes.attributes inode (unnamed moment attribute) within in
    let sized = sized_but s.inodes (with_attribute s.inodes inode (unnamed moment attribute)) s.files s.files inode (set_differ s.inodes.attributes inode (Some (unnamed moment attribute))) (same_differ s.files inode) (bytes ∙ ap file_size (sym at)) fits.sized in
    gone_fits own inode (name_gone key inode attribute moment s) (of_names.unnamed_but s.inodes s.names key inode (unnamed moment attribute) gone fits.named)
    (record { attribute = unnamed moment attribute; there = at; mine = mine }) sized fits.room

-- the times of a directory change, and a name in it goes
pub unlinked_fits : (own : Kind) (parent : ℕ) (key : Key) (inode : ℕ) (was attribute : Attribute) (moment : ℕ) (s : Stored) → row_at s.inodes.attributes parent ≡ Some was → row_at s.inodes.attributes inode ≡ Some attribute
    → is_own own attribute.kind ≡ true → ((other : Key) → get (remove s.names key) other ≡ Some inode → ⊥) → StoreFits s
    → StoreFits (name_taken own key inode attribute moment (record s { inodes = with_attribute s.inodes parent (with_entries_changed moment was) }))
unlinked_fits own parent key inode was attribute moment s parent_is is mine gone fits =
    let there = within_table s.inodes.attributes inode attribute is in
    let same = length-set s.inodes.attributes parent (Some (with_entries_changed moment was)) in
    taken_fits own key inode attribute moment (record s { inodes = with_attribute s.inodes parent (with_entries_changed moment was) }) (omega (arith, there, same)) (fits.sized inode ∙ ap file_size is) mine gone
    (kept_fits s.inodes s.names s.files parent was (with_entries_changed moment was) parent_is refl refl fits)
