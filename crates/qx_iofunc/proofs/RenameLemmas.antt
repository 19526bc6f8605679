-- What a rename comes to, and what it leaves of how names, inodes and the bytes of files stand together.
use Rattle.std.proofs.Common.{◌≡◌, ◌≢◌, inl, inr, ℕ, ◌==◌, ◌&&◌, Bool, true, false, List, [], ◌∷◌, length, not, refl, sym, ap, ◌∙◌, arith, Option, Some, None, Result, Ok, Err, IsSome, option_map, slice_set}
use Rattle.std.specs.Prelude.{◌≤◌, ◌||◌, ⊤, IfSome, nat_le}
use Rattle.std.specs.FinMap.{get, remove}
use Rattle.std.specs.Str.{bytes_eq}
use Rattle.std.proofs.lemmas.Slice.Eq.{bytes_eq-Decides}
use Rattle.std.specs.List.{list_all}
use Rattle.std.proofs.lemmas.Bool.{and_parts, cases_eq}
use Rattle.std.proofs.lemmas.Bool.Decides.{nat_tests}
use Rattle.std.proofs.lemmas.Option.{same_Some}
use Rattle.qx_attr.proofs.CountLemmas.{row-set_same, within_table}
use Rattle.qx_base.specs.declared.errno.Errno.{Errno}
use Rattle.qx_base.specs.declared.errno.Errno.TheVariants.{EBUSY, EISDIR, ENOENT, ENOTDIR, ENOTEMPTY}
use Rattle.qx_isolation.specs.Judgements.{◌>>=◌, found, need}
use Rattle.qx_isolation.specs.Rows.{row_at}
use Rattle.qx_machine.specs.declared.rows.Attribute.{Attribute}
use Rattle.qx_machine.specs.declared.rows.Effect.TheVariants.{Keeps}
use Rattle.qx_machine.specs.declared.rows.Kind.{Kind}
use Rattle.qx_machine.specs.declared.rows.Kind.TheVariants.{File}
use Rattle.qx_machine.specs.Defaults.{cleared, is_own, rename_path, unnamed, with_entries_changed, without_unused, writable}
use Rattle.qx_machine.specs.Functions.{Deed, reply_alone}
use Rattle.qx_machine.specs.Inodes.{Inodes, is_unused, with_attribute}
use Rattle.qx_machine.specs.Names.{Key, Names, Spot, is_below, is_directory, is_empty, is_same_key, moved, names_in, spot, under}
use Rattle.qx_machine.specs.Resources.{Resources}
use Rattle.qx_machine.proofs.Gives.{found-row, gives_done, gives_on, gives-value, need-true}
use Rattle.qx_types.specs.declared.limits.TheConstants.Limits.{COMPONENT, PATH}
use Rattle.qx_wire.specs.Rests.{is_component, is_rest, joined}
use Rattle.qx_names.specs.Spots.{AreShort}
use Rattle.qx_names.specs.Paths.{HasNoPath, HasPath, path_of}
use Rattle.qx_names.specs.declared.spot.Spot as spots
use Rattle.qx_names.specs.inner.Shows.{key_total, key-IsAntisymmetric}
use Rattle.qx_names.proofs.Keys.{nothing_behind, remove-at, remove-other}
use Rattle.qx_names.proofs.MapLemmas.{tied, untied}
use Rattle.qx_names.proofs.Moved.{above_same, name_same, was_led}
use Rattle.qx_iofunc.proofs.OpenLemmas.{none_in}
use Rattle.qx_iofunc.proofs.PlaceLemmas.{by_place, row-within, set_at, set_differ}
use Rattle.qx_iofunc.proofs.StoreLemmas.{StoreFits, kept_fits, taken_fits}
use Rattle.qx_iofunc.specs.Fits.{file_size}
use Rattle.qx_iofunc.specs.Store.{Stored, with_stored}
use Rattle.qx_iofunc.specs.inner.Makes.{may_replace}
use Rattle.qx_iofunc.specs.inner.Store.{CanMove, IsReplaceable, both_changed, name_free, name_gone, name_taken, names_free, row_taken}

-- ---- what has the new name already

pub replaceable : (kind : Kind) (inodes : Inodes) (names : Names) (there : Option ℕ) → may_replace File kind inodes names there ≡ Ok tt → IsReplaceable inodes names there
replaceable kind inodes names None is = tt
replaceable kind inodes names (Some there) is =
    gives-value (λ _. IsReplaceable inodes names (Some there)) (may_replace File kind inodes names (Some there)) tt is
    (gives_on _ (found (row_at inodes.attributes there) ENOENT) _ (λ target row.
    gives_on _ (need (is_directory target.kind || not (is_directory kind)) ENOTDIR) _ (λ onto is_onto.
    gives_on _ (need (is_directory kind || not (is_directory target.kind)) EISDIR) _ (λ none is_none.
    gives_on _ (need (is_empty (names_in names there)) ENOTEMPTY) _ (λ empty is_one.
    gives_on _ (need (is_own File target.kind) ENOENT) _ (λ mine is_mine.
    gives_done _ _ (none_in (names_in names there) (need-true _ ENOTEMPTY empty is_one), (target, (found-row _ ENOENT target row, need-true _ ENOENT mine is_mine)))))))))

-- ---- the times of both directories change

abbrev kind_at : List (Option Attribute) → ℕ → Option Kind
kind_at rows n = option_map (λ (a : Attribute). a.kind) (row_at rows n)

with_kind : (row : Option Attribute) (kind : Kind) → option_map (λ (a : Attribute). a.kind) row ≡ Some kind → IsSome row
with_kind None kind is = absurd (cc)
with_kind (Some attribute) kind is = refl

kind_set : (rows : List (Option Attribute)) (p : ℕ) (now : Attribute) → kind_at rows p ≡ Some now.kind → (n : ℕ) → kind_at (slice_set rows p (Some now)) n ≡ kind_at rows n
kind_set rows p now is =
    by_place (λ n. kind_at (slice_set rows p (Some now)) n ≡ kind_at rows n) p
    (ap (option_map (λ (a : Attribute). a.kind)) (set_at rows p now (row-within rows p (with_kind (row_at rows p) now.kind is))) ∙ sym is)
    (λ n apart. ap (option_map (λ (a : Attribute). a.kind)) ((set_differ rows p (Some now)).others n apart))

-- what is there stays
pub there_set : (rows : List (Option Attribute)) (p : ℕ) (now : Attribute) → IsSome (row_at rows p) → (n : ℕ) → IsSome (row_at rows n) → IsSome (row_at (slice_set rows p (Some now)) n)
there_set rows p now some =
    by_place (λ n. IsSome (row_at rows n) → IsSome (row_at (slice_set rows p (Some now)) n)) p (λ here. rw (set_at rows p now (row-within rows p here)) refl)
    (λ n apart here. rw ((set_differ rows p (Some now)).others n apart) here)

module _ (s : Stored) (one two : ℕ) (parent other : Attribute) (moment : ℕ) (parent_is : row_at s.inodes.attributes one ≡ Some parent) (other_is : row_at s.inodes.attributes two ≡ Some other) where
  abbrev both : Stored
  both = both_changed one parent two other moment s

  abbrev first : List (Option Attribute)
  first = slice_set s.inodes.attributes one (Some (with_entries_changed moment parent))

  kinds_kept : (n : ℕ) → kind_at both.inodes.attributes n ≡ kind_at s.inodes.attributes n
  kinds_kept n =
      let once : (m : ℕ) → kind_at first m ≡ kind_at s.inodes.attributes m = kind_set s.inodes.attributes one (with_entries_changed moment parent) (ap (option_map (λ (a : Attribute). a.kind)) parent_is) in
      kind_set first two (with_entries_changed moment other) (once two ∙ ap (option_map (λ (a : Attribute). a.kind)) other_is) n ∙ once n

  pub both_fit : StoreFits s → StoreFits both
  both_fit fits =
      let once = kept_fits s.inodes s.names s.files one parent (with_entries_changed moment parent) parent_is refl refl fits in
      let inodes : Inodes = with_attribute s.inodes one (with_entries_changed moment parent) in
      elim (cases_eq two one) [
        | inl same ↦
            let is : other ≡ parent = same_Some _ _ (sym other_is ∙ ap (row_at s.inodes.attributes) same ∙ parent_is) in
            kept_fits inodes s.names s.files two (with_entries_changed moment parent) (with_entries_changed moment other)
            (ap (row_at first) same ∙ row-set_same s.inodes.attributes one parent (with_entries_changed moment parent) parent_is) (ap (λ (a : Attribute). a.links) is) (ap (λ (a : Attribute). file_size (Some a)) is) once
        | inr apart ↦
            kept_fits inodes s.names s.files two other (with_entries_changed moment other)
            ((set_differ s.inodes.attributes one (Some (with_entries_changed moment parent))).others two apart ∙ other_is) refl refl once
      ]

  pub replaceable_kept : (there : Option ℕ) → IsReplaceable s.inodes s.names there → IsReplaceable both.inodes s.names there
  replaceable_kept None is = tt
  replaceable_kept (Some inode) is = (is.0, by (row_at both.inodes.attributes inode) refl (kinds_kept inode ∙ ap (option_map (λ (a : Attribute). a.kind)) is.1.1.0))
    where
      by : (row : Option Attribute) → row_at both.inodes.attributes inode ≡ row → option_map (λ (a : Attribute). a.kind) row ≡ Some is.1.0.kind
          → (target : Attribute) × ((row_at both.inodes.attributes inode ≡ Some target) × (is_own File target.kind ≡ true))
      by None at kind = absurd (cc)
      by (Some target) at kind = (target, (at, ap (is_own File) (same_Some _ _ kind) ∙ is.1.1.1))

  -- ---- what is there loses its name, where it may be replaced

  module _ (r : Resources) (attribute : Attribute) (to : Spot) where
    free_is : (inode : ℕ) (target : Attribute)
        → without_unused File inode (record (with_stored r both) { inodes = with_attribute both.inodes inode (unnamed moment target); names = remove s.names to.key }) ≡ with_stored r (name_taken File to.key inode target moment both)
    free_is inode target = by (is_unused gone.inodes inode (row_at gone.inodes.attributes inode)) refl
      where
        gone : Stored
        gone = name_gone to.key inode target moment both

        by : (unused : Bool) → is_unused gone.inodes inode (row_at gone.inodes.attributes inode) ≡ unused
            → without_unused File inode (with_stored r gone) ≡ with_stored r (name_taken File to.key inode target moment both)
        by true e = rw e refl
        by false e = rw e refl

    abbrev judged : {A : Type 0} → Kind → Bool → A → Result A Errno
    judged target empty value =
        need (is_directory target || not (is_directory attribute.kind)) ENOTDIR >>= (λ _. need (is_directory attribute.kind || not (is_directory target)) EISDIR >>= (λ _. need empty ENOTEMPTY >>= (λ _. need (is_own File target) ENOENT >>= (λ _. Ok value))))

    abbrev nothing : ⊤
    nothing = tt

    judged_again : {A B : Type 0} (onto none empty mine : Bool) (value : A) (given : B)
        → (need {E = Errno} onto ENOTDIR >>= (λ _. need none EISDIR >>= (λ _. need empty ENOTEMPTY >>= (λ _. need mine ENOENT >>= (λ _. Ok value)))))
        ≡ ((need onto ENOTDIR >>= (λ _. need none EISDIR >>= (λ _. need empty ENOTEMPTY >>= (λ _. need mine ENOENT >>= (λ _. Ok given))))) >>= (λ _. Ok value))
    judged_again false none empty mine value given = refl
    judged_again true false empty mine value given = refl
    judged_again true true false mine value given = refl
    judged_again true true true false value given = refl
    judged_again true true true true value given = refl

    cleared_is : (there : Option ℕ) → cleared File attribute to there moment (with_stored r both) ≡ (may_replace File attribute.kind s.inodes s.names there >>= (λ _. Ok (with_stored r (name_free to.key there moment both))))
    cleared_is None = refl
    cleared_is (Some inode) = by (row_at s.inodes.attributes inode) (row_at both.inodes.attributes inode) (kinds_kept inode)
      where
        empty : Bool
        empty = is_empty (names_in s.names inode)

        by : (before after : Option Attribute) → option_map (λ (a : Attribute). a.kind) after ≡ option_map (λ (a : Attribute). a.kind) before
            → (found after ENOENT >>= (λ target. judged target.kind empty (without_unused File inode (record (with_stored r both) { inodes = with_attribute both.inodes inode (unnamed moment target); names = remove s.names to.key }))))
            ≡ ((found before ENOENT >>= (λ target. judged target.kind empty nothing)) >>= (λ _. Ok (with_stored r (row_taken to.key inode moment both after))))
        by None None e = refl
        by None (Some after) e = absurd (cc)
        by (Some before) None e = absurd (cc)
        by (Some before) (Some after) e =
            ap (λ kind. judged kind empty (without_unused File inode (record (with_stored r both) { inodes = with_attribute both.inodes inode (unnamed moment after); names = remove s.names to.key }))) (same_Some _ _ e)
            ∙ ap (judged before.kind empty) (free_is inode after)
            ∙ judged_again (is_directory before.kind || not (is_directory attribute.kind)) (is_directory attribute.kind || not (is_directory before.kind)) empty (is_own File before.kind) (with_stored r (name_taken File to.key inode after moment both)) nothing

-- ---- so a rename gives this, where nothing is refused before

abbrev pub renamed : Spot → Spot → Attribute → Attribute → ℕ → Stored → Stored
renamed old new parent other moment s =
    let free : Stored = name_free new.key new.inode moment (both_changed old.parent parent new.parent other moment s) in
    record free { names = moved free.names old.key new.key }

pub record IsJudged (s : Stored) (root : ℕ) (from to : List (List ℕ)) (old new : Spot) (inode : ℕ) (parent other attribute : Attribute) : Type 0 where
  pub named : (not (length from == 0) && not (length to == 0)) ≡ true
  pub old_is : spot s.inodes s.names s.user root from EBUSY ≡ Ok old
  pub there : old.inode ≡ Some inode
  pub new_is : spot s.inodes s.names s.user root to EBUSY ≡ Ok new
  pub parent_is : writable s.inodes s.user old.parent ≡ Ok parent
  pub other_is : writable s.inodes s.user new.parent ≡ Ok other
  pub parent_row : row_at s.inodes.attributes old.parent ≡ Some parent
  pub other_row : row_at s.inodes.attributes new.parent ≡ Some other
  pub apart : is_same_key old.key new.key ≡ false
  pub attribute_is : row_at s.inodes.attributes inode ≡ Some attribute
  pub outside : is_below old.key new.key.0 new.key.1 ≡ false

pub renamed_is : (r : Resources) (s : Stored) (root : ℕ) (from to : List (List ℕ)) (moment : ℕ) (old new : Spot) (inode : ℕ) (parent other attribute : Attribute) → IsJudged s root from to old new inode parent other attribute
    → rename_path File (with_stored r s) root from to moment ≡ (may_replace File attribute.kind s.inodes s.names new.inode >>= (λ _. Ok (reply_alone 0 [] Keeps (with_stored r (renamed old new parent other moment s)))))
renamed_is r s root from to moment old new inode parent other attribute is =
    rw (is.named, is.old_is, is.there, is.new_is, is.parent_is, is.other_is, is.apart, is.attribute_is, is.outside)
    (ap (λ (given : Result Resources Errno). given >>= (λ free. Ok (moved_on free))) (cleared_is s old.parent new.parent parent other moment is.parent_row is.other_row r attribute new new.inode) ∙ again (may_replace File attribute.kind s.inodes s.names new.inode))
  where
    moved_on : Resources → Deed Resources
    moved_on free = reply_alone 0 [] Keeps (record free { names = moved free.names old.key new.key })

    again : (judged : Result ⊤ Errno) → ((judged >>= (λ _. Ok (with_stored r (name_free new.key new.inode moment (both_changed old.parent parent new.parent other moment s))))) >>= (λ free. Ok (moved_on free)))
        ≡ (judged >>= (λ _. Ok (reply_alone 0 [] Keeps (with_stored r (renamed old new parent other moment s)))))
    again (Ok done) = refl
    again (Err error) = refl

-- so it is what a rename leaves
pub renamed_now : (old new : Spot) (parent other : Attribute) (moment : ℕ) (s free : Stored) (from to : Key) (names : Names) → free ≡ name_free new.key new.inode moment (both_changed old.parent parent new.parent other moment s) → from ≡ old.key → to ≡ new.key
    → names ≡ moved free.names from to → record free { names = names } ≡ renamed old new parent other moment s
renamed_now old new parent other moment s free from to names is from_is to_is names_are = rw (names_are, from_is, to_is, is) refl

-- ---- names

-- components are short
short : (name : List ℕ) → is_component name ≡ true → length name ≤ COMPONENT
short name is = grind (arith, nat_tests, is)

shorts : (names : List (List ℕ)) → list_all is_component names ≡ true → AreShort names
shorts [] are = tt
shorts (name ∷ names) are = let both = and_parts (is_component name) (list_all is_component names) are in (short name both.0, shorts names both.1)

pub are_short : (rest : List (List ℕ)) → is_rest rest ≡ true → AreShort rest
are_short rest is = shorts rest (and_parts (nat_le (length (joined rest)) PATH) (list_all is_component rest) is).1

-- two spots are one where their directories and their names are
module _ (names : Names) (one two : ℕ) (name next : List ℕ) where
  abbrev both_are : Bool
  both_are = is_same_key (under (path_of names one) name) (under (path_of names two) next)

  pub same_spots : one ≡ two → bytes_eq name next ≡ both_are
  same_spots same = by (bytes_eq name next) refl
    where
      by : (b : Bool) → bytes_eq name next ≡ b → bytes_eq name next ≡ both_are
      by true e =
          let keys : under (path_of names one) name ≡ under (path_of names two) next = λ i. under (path_of names (same i)) ((bytes_eq-Decides name next).0 e i) in
          e ∙ sym (sym (ap (is_same_key (under (path_of names one) name)) keys) ∙ tied key_total key-IsAntisymmetric (under (path_of names one) name))
      by false e =
          e ∙ sym (untied key_total key-IsAntisymmetric (under (path_of names one) name) (under (path_of names two) next)
          (λ keys. let clash : true ≡ false = sym ((bytes_eq-Decides name next).1 (name_same (path_of names one) (path_of names two) name next keys)) ∙ e in cc))

  pub other_spots : HasPath names one → HasPath names two → (one ≡ two → ⊥) → false ≡ both_are
  other_spots led also_led differ =
      sym (untied key_total key-IsAntisymmetric (under (path_of names one) name) (under (path_of names two) next)
      (λ keys. differ (same_Some _ _ (sym led ∙ ap (get names) (above_same (path_of names one) (path_of names two) name next keys) ∙ also_led))))

module _ (names : Names) (old new : spots.Spot) (inode : ℕ) (there : Option ℕ) (led : HasPath names old.parent) (also_led : HasPath names new.parent) (leads : get names (under (path_of names old.parent) old.name.now) ≡ Some inode)
    (leads_to : there ≡ get names (under (path_of names new.parent) new.name.now)) (differ : is_same_key (under (path_of names old.parent) old.name.now) (under (path_of names new.parent) new.name.now) ≡ false) where
  abbrev from : Key
  from = under (path_of names old.parent) old.name.now

  abbrev to : Key
  to = under (path_of names new.parent) new.name.now

  apart : from ≢ to
  apart same = let both : true ≡ false = sym (tied key_total key-IsAntisymmetric to) ∙ ap (λ key. is_same_key key to) (sym same) ∙ differ in cc

  new_stays : path_of names new.parent ≢ to
  new_stays same = let lengths = ap (λ (key : Key). length key.1) same in omega (arith, lengths)

  -- what has the new name is empty, and so not the old one's directory
  old_stays : (inodes : Inodes) → IsReplaceable inodes names there → path_of names old.parent ≢ to
  old_stays inodes empty same = by there empty leads_to
    where
      by : (there : Option ℕ) → IsReplaceable inodes names there → there ≡ get names to → ⊥
      by None none is = let both : Some old.parent ≡ None = sym led ∙ ap (get names) same ∙ sym is in cc
      by (Some n) none is =
          let here : n ≡ old.parent = same_Some _ _ (is ∙ ap (get names) (sym same) ∙ led) in
          nothing_behind names old.parent (path_of names old.parent) led old.name.now (ap (names_in names) (sym here) ∙ none.0) inode leads

  still_led : get (names_free to there names) from ≡ Some inode
  still_led = by there
    where
      by : (there : Option ℕ) → get (names_free to there names) from ≡ Some inode
      by None = leads
      by (Some n) = remove-other names to from inode leads apart

  now_free : get (names_free to there names) to ≡ None
  now_free = by there leads_to
    where
      by : (there : Option ℕ) → there ≡ get names to → get (names_free to there names) to ≡ None
      by None is = sym is
      by (Some n) is = remove-at names to

  pub can_move : (inodes : Inodes) → IsReplaceable inodes names there → (now : Names) → now ≡ names_free to there names
      → ((other : ℕ) → HasPath names other → path_of names other ≢ to → HasPath (names_free to there names) other × (path_of (names_free to there names) other ≡ path_of names other)) → CanMove names now old inode new
  can_move inodes empty now is others =
      let first = others old.parent led (old_stays inodes empty) in
      let second = others new.parent also_led new_stays in
      let from_is : under (path_of (names_free to there names) old.parent) old.name.now ≡ from = ap (λ (key : Key). under key old.name.now) first.1 in
      let to_is : under (path_of (names_free to there names) new.parent) new.name.now ≡ to = ap (λ (key : Key). under key new.name.now) second.1 in
      rw is (record { directory = first.0; target = second.0; from = from_is; to = to_is; there = ap (get (names_free to there names)) from_is ∙ still_led; free = ap (get (names_free to there names)) to_is ∙ now_free })

-- ---- how all stands together

module _ (s : Stored) (key : Key) (moment : ℕ) where
  by_row : (inode : ℕ) (target : Attribute) → row_at s.inodes.attributes inode ≡ Some target → (P : Stored → Type 0) → P (name_taken File key inode target moment s) → P (name_free key (Some inode) moment s)
  by_row inode target is P h = rw is h

  pub free_fits : (there : Option ℕ) → IsReplaceable s.inodes s.names there → IfSome there (λ inode. HasNoPath (remove s.names key) inode) → StoreFits s → StoreFits (name_free key there moment s)
  free_fits None is gone fits = fits
  free_fits (Some inode) is gone fits =
      by_row inode is.1.0 is.1.1.0 StoreFits (taken_fits File key inode is.1.0 moment s (within_table s.inodes.attributes inode is.1.0 is.1.1.0) (fits.sized inode ∙ ap file_size is.1.1.0) is.1.1.1 gone fits)

  pub free_names : (there : Option ℕ) → IsReplaceable s.inodes s.names there → (name_free key there moment s).names ≡ names_free key there s.names
  free_names None is = refl
  free_names (Some inode) is = by_row inode is.1.0 is.1.1.0 (λ (now : Stored). now.names ≡ remove s.names key) (by (is_unused gone.inodes inode (row_at gone.inodes.attributes inode)) refl)
    where
      gone : Stored
      gone = name_gone key inode is.1.0 moment s

      by : (unused : Bool) → is_unused gone.inodes inode (row_at gone.inodes.attributes inode) ≡ unused → (name_taken File key inode is.1.0 moment s).names ≡ remove s.names key
      by true e = rw e refl
      by false e = rw e refl

-- whose it is stays
pub free_user : (s : Stored) (key : Key) (moment : ℕ) (there : Option ℕ) → (name_free key there moment s).user ≡ s.user
free_user s key moment None = refl
free_user s key moment (Some inode) = by (row_at s.inodes.attributes inode)
  where
    taken : (attribute : Attribute) (unused : Bool) → is_unused (name_gone key inode attribute moment s).inodes inode (row_at (name_gone key inode attribute moment s).inodes.attributes inode) ≡ unused → (name_taken File key inode attribute moment s).user ≡ s.user
    taken attribute true e = rw e refl
    taken attribute false e = rw e refl

    by : (row : Option Attribute) → (row_taken key inode moment s row).user ≡ s.user
    by None = refl
    by (Some attribute) = taken attribute (is_unused (name_gone key inode attribute moment s).inodes inode (row_at (name_gone key inode attribute moment s).inodes.attributes inode)) refl

pub moved_fits : (s : Stored) (from to : Key) → StoreFits s → StoreFits (record s { names = moved s.names from to })
moved_fits s from to fits = record {
  named = record {
    linked = λ key inode leads. let was = was_led s.names from to key inode leads in fits.named.linked was.0 inode was.1.0;
    used = fits.named.used;
    places = fits.named.places;
  };
  sized = fits.sized;
  room = fits.room;
}
