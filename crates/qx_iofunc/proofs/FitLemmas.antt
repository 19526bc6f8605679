-- What each change of names and inodes leaves of how they stand together.
use Rattle.std.proofs.Common.{◌≡◌, ◌≢◌, ℕ, zero, suc, ◌≤◌, ◌==◌, ◌&&◌, Bool, true, false, List, [], ◌∷◌, ◌++◌, length, refl, sym, ap, ◌∙◌, subst, arith, cond, slice_set, Option, Some, None, count_by}
use Rattle.std.specs.Prelude.{if◌then◌else◌}
use Rattle.std.specs.FinMap.{empty, get, get-empty, get-insert, get-remove, insert, remove}
use Rattle.std.specs.Ordering.{eq_by_cmp}
use Rattle.std.proofs.lemmas.Bool.{eqb-true}
use Rattle.std.proofs.lemmas.Bool.Decides.{nat_tests}
use Rattle.qx_attr.proofs.CountLemmas.{count-free, count-put, count-same, counts_other, row-set_same}
use Rattle.qx_attr.specs.inner.Counts.{one}
use Rattle.qx_iofunc.specs.Fits.{NamesFit, IsLinked}
use Rattle.qx_iofunc.specs.inner.Fits.{NamesFitBut}
use Rattle.qx_iofunc.proofs.PlaceLemmas.{Differ, by_place, put_at, put_differ, row-freed, same_differ, set_differ}
use Rattle.qx_types.specs.UserLimits.{UserLimits}
use Rattle.qx_machine.specs.declared.rows.Attribute.{Attribute}
use Rattle.qx_machine.specs.declared.rows.Ocb.{Ocb}
use Rattle.qx_machine.specs.Inodes.{Inodes, blocks_of, close_block, free_inode, is_open, is_unused, no_inodes, with_attribute}
use Rattle.qx_machine.specs.Names.{Key, Names, key_cmp}
use Rattle.qx_isolation.specs.Rows.{put_row, row_at, with_row}
use Rattle.qx_names.specs.Paths.{HasNoPath}
use Rattle.qx_names.specs.inner.Shows.{key_total}
use Rattle.qx_rows.proofs.RowLemmas.{with_row-none}

-- ---- whether an inode is unused

still_some : (before now : ℕ) → before ≤ now → (before == 0) ≡ false → (now == 0) ≡ false
still_some before now more some = grind (arith, nat_tests, more, some)

-- what is used stays so while it has no fewer open control blocks
used_more : (inodes now : Inodes) (inode : ℕ) (row : Option Attribute) → blocks_of inodes inode ≤ blocks_of now inode → is_unused inodes inode row ≡ false → is_unused now inode row ≡ false
used_more inodes now inode None more used = refl
used_more inodes now inode (Some attribute) more used = by_links (attribute.links == 0) used
  where
    by_links : (none : Bool) → (none && (blocks_of inodes inode == 0)) ≡ false → (none && (blocks_of now inode == 0)) ≡ false
    by_links false some = refl
    by_links true some = still_some (blocks_of inodes inode) (blocks_of now inode) more some

no_links : (inodes : Inodes) (inode : ℕ) (row : Option Attribute) → is_unused inodes inode row ≡ true → IsLinked row → ⊥
no_links inodes inode None unused linked = linked
no_links inodes inode (Some attribute) unused linked = by_links (attribute.links == 0) refl unused
  where
    by_links : (none : Bool) → (attribute.links == 0) ≡ none → (none && (blocks_of inodes inode == 0)) ≡ true → ⊥
    by_links true is both = omega (arith, linked, eqb-true attribute.links 0 is)
    by_links false is both = absurd (cc)

-- ---- one inode changes, and perhaps a name of it goes

but_one : (inodes now : Inodes) (names left : Names) (inode : ℕ) → Differ inodes.attributes now.attributes inode
    → ((other : ℕ) → other ≢ inode → blocks_of inodes other ≤ blocks_of now other) → ((key : Key) (other : ℕ) → get left key ≡ Some other → get names key ≡ Some other)
    → ((key : Key) → get left key ≡ Some inode → IsLinked (row_at now.attributes inode)) → NamesFit inodes names → NamesFitBut now left inode
but_one inodes now names left inode rows opens named linked fits = record {
  linked = λ key. by_place (λ n. get left key ≡ Some n → IsLinked (row_at now.attributes n)) inode (linked key)
      (λ other apart leads. subst IsLinked (sym (rows.others other apart)) (fits.linked key other (named key other leads)));
  used = λ other apart. ap (is_unused now other) (rows.others other apart) ∙ used_more inodes now other (row_at inodes.attributes other) (opens other apart) (fits.used other);
  places = let longer = rows.longer in let some = fits.places in omega (arith, longer, some);
}

whole : (inodes : Inodes) (names : Names) (inode : ℕ) → is_unused inodes inode (row_at inodes.attributes inode) ≡ false → NamesFitBut inodes names inode → NamesFit inodes names
whole inodes names inode used but = record {
  linked = but.linked;
  used = by_place (λ n. is_unused inodes n (row_at inodes.attributes n) ≡ false) inode used but.used;
  places = but.places;
}

-- the attribute of an inode comes or changes, and is linked where paths lead there
row_fits : (inodes : Inodes) (rows : List (Option Attribute)) (names : Names) (inode : ℕ) (now : Attribute) → Differ inodes.attributes rows inode → row_at rows inode ≡ Some now → ((key : Key) → get names key ≡ Some inode → IsLinked (Some now)) → is_unused inodes inode (Some now) ≡ false
    → NamesFit inodes names → NamesFit (record inodes { attributes = rows }) names
row_fits inodes rows names inode now differ at linked used fits =
    let after : Inodes = record inodes { attributes = rows } in
    whole after names inode (ap (is_unused after inode) at ∙ used)
    (but_one inodes after names names inode differ (λ other apart. omega arith) (λ key other leads. leads) (λ key leads. subst IsLinked (sym at) (linked key leads)) fits)

-- an attribute changes, and not its links
pub attribute_fits : (inodes : Inodes) (names : Names) (inode : ℕ) (was now : Attribute) → row_at inodes.attributes inode ≡ Some was → now.links ≡ was.links → NamesFit inodes names → NamesFit (with_attribute inodes inode now) names
attribute_fits inodes names inode was now is links fits =
    row_fits inodes (slice_set inodes.attributes inode (Some now)) names inode now (set_differ inodes.attributes inode (Some now)) (row-set_same inodes.attributes inode was now is)
    (λ key leads. let before : IsLinked (Some was) = subst IsLinked is (fits.linked key inode leads) in omega (arith, before, links))
    (ap (λ count. (count == 0) && (blocks_of inodes inode == 0)) links ∙ (ap (is_unused inodes inode) (sym is) ∙ fits.used inode)) fits

-- an inode comes, with a link
pub inode_fits : (inodes : Inodes) (names : Names) (inode : ℕ) (attribute : Attribute) → inode ≤ length inodes.attributes → attribute.links ≡ 1 → NamesFit inodes names → NamesFit (record inodes { attributes = put_row inodes.attributes inode attribute }) names
inode_fits inodes names inode attribute within links =
    row_fits inodes (put_row inodes.attributes inode attribute) names inode attribute (put_differ inodes.attributes inode attribute within) (put_at inodes.attributes inode attribute within)
    (λ key leads. omega (arith, links)) (ap (λ count. (count == 0) && (blocks_of inodes inode == 0)) links)

-- a path comes
pub name_fits : (inodes : Inodes) (names : Names) (key : Key) (inode : ℕ) → IsLinked (row_at inodes.attributes inode) → NamesFit inodes names → NamesFit inodes (insert names key inode)
name_fits inodes names key inode is fits = record {
  linked = λ other number leads. by_key other number (eq_by_cmp key_cmp other key) (sym (get-insert key_total names key inode other) ∙ leads);
  used = fits.used;
  places = fits.places;
}
  where
    by_key : (other : Key) (number : ℕ) (b : Bool) → cond b (Some inode) (get names other) ≡ Some number → IsLinked (row_at inodes.attributes number)
    by_key other number true e = let same : inode ≡ number = cc in subst (λ n. IsLinked (row_at inodes.attributes n)) same is
    by_key other number false e = fits.linked other number e

-- ---- open control blocks come, move and go

-- no inode has fewer
blocks_fit : (inodes : Inodes) (names : Names) (blocks : List (Option Ocb)) (made : List ℕ) → ((inode : ℕ) → blocks_of inodes inode ≤ count_by (is_open (λ flags. true) inode) blocks) → NamesFit inodes names → NamesFit (record inodes { blocks = blocks; made = made }) names
blocks_fit inodes names blocks made more fits = record {
  linked = fits.linked;
  used = λ inode. used_more inodes (record inodes { blocks = blocks; made = made }) inode (row_at inodes.attributes inode) (more inode) (fits.used inode);
  places = fits.places;
}

-- so a block may change that keeps its inode
pub block_changed_fits : (inodes : Inodes) (names : Names) (number : ℕ) (change : Ocb → Ocb) → ((block : Ocb) → (change block).inode ≡ block.inode) → NamesFit inodes names → NamesFit (record inodes { blocks = with_row inodes.blocks number change }) names
block_changed_fits inodes names number change same_inode = blocks_fit inodes names (with_row inodes.blocks number change) inodes.made (λ inode. let same = by_row inode (row_at inodes.blocks number) refl in omega (arith, same))
  where
    by_row : (inode : ℕ) (row : Option Ocb) → row_at inodes.blocks number ≡ row → count_by (is_open (λ flags. true) inode) (with_row inodes.blocks number change) ≡ blocks_of inodes inode
    by_row inode None is = ap (count_by (is_open (λ flags. true) inode)) (with_row-none inodes.blocks number change is)
    by_row inode (Some block) is = rw is (count-same (is_open (λ flags. true) inode) refl inodes.blocks number block (change block) is (λ i. (same_inode block i == inode) && true))

pub block_fits : (inodes : Inodes) (names : Names) (number : ℕ) (block : Ocb) → row_at inodes.blocks number ≡ None → NamesFit inodes names → NamesFit (record inodes { blocks = put_row inodes.blocks number block; made = inodes.made ++ number ∷ [] }) names
block_fits inodes names number block free =
    blocks_fit inodes names (put_row inodes.blocks number block) (inodes.made ++ number ∷ []) (λ inode. let put = count-put (is_open (λ flags. true) inode) refl inodes.blocks number block free in omega (arith, put))

pub closed_but : (inodes : Inodes) (names : Names) (number : ℕ) (block : Ocb) → row_at inodes.blocks number ≡ Some block → NamesFit inodes names → NamesFitBut (close_block inodes number) names block.inode
closed_but inodes names number block is fits =
    but_one inodes (close_block inodes number) names names block.inode (same_differ inodes.attributes block.inode) opens (λ key other leads. leads) (λ key leads. fits.linked key block.inode leads) fits
  where
    opens : (other : ℕ) → other ≢ block.inode → blocks_of inodes other ≤ blocks_of (close_block inodes number) other
    opens other apart =
        let freed = count-free (is_open (λ flags. true) other) refl inodes.blocks number block is in
        let none : one (is_open (λ flags. true) other (Some block)) ≡ 0 = ap one (counts_other (λ flags. true) block other apart) in
        omega (arith, freed, none)

-- ---- a name goes, and what is unused

-- no path leads to what it named any more
pub unnamed_but : (inodes : Inodes) (names : Names) (key : Key) (inode : ℕ) (now : Attribute) → ((other : Key) → get (remove names key) other ≡ Some inode → ⊥) → NamesFit inodes names → NamesFitBut (with_attribute inodes inode now) (remove names key) inode
unnamed_but inodes names key inode now gone fits =
    but_one inodes (with_attribute inodes inode now) names (remove names key) inode (set_differ inodes.attributes inode (Some now)) (λ other apart. omega arith) kept (λ other leads. absurd (gone other leads)) fits
  where
    by_key : (other : Key) (number : ℕ) (b : Bool) → cond b None (get names other) ≡ Some number → get names other ≡ Some number
    by_key other number true e = absurd (cc)
    by_key other number false e = e

    kept : (other : Key) (number : ℕ) → get (remove names key) other ≡ Some number → get names other ≡ Some number
    kept other number leads = by_key other number (eq_by_cmp key_cmp other key) (sym (get-remove key_total names key other) ∙ leads)

pub freed_fits : (inodes : Inodes) (names : Names) (inode : ℕ) → NamesFitBut inodes names inode → NamesFit (free_inode inodes inode) names
freed_fits inodes names inode but = by_test (is_unused inodes inode (row_at inodes.attributes inode)) refl
  where
    others : (other : ℕ) → other ≢ inode → row_at (slice_set inodes.attributes inode None) other ≡ row_at inodes.attributes other
    others = (set_differ inodes.attributes inode None).others

    by_test : (unused : Bool) → is_unused inodes inode (row_at inodes.attributes inode) ≡ unused → NamesFit (if unused then record inodes { attributes = slice_set inodes.attributes inode None } else inodes) names
    by_test false is = whole inodes names inode is but
    by_test true is =
        let longer = (set_differ inodes.attributes inode None).longer in
        let some = but.places in
        whole (record inodes { attributes = slice_set inodes.attributes inode None }) names inode (ap (is_unused (record inodes { attributes = slice_set inodes.attributes inode None }) inode) (row-freed inodes.attributes inode))
        (record {
          linked = λ key. by_place (λ n. get names key ≡ Some n → IsLinked (row_at (slice_set inodes.attributes inode None) n)) inode
              (λ leads. absurd (no_links inodes inode (row_at inodes.attributes inode) is (but.linked key inode leads)))
              (λ other apart leads. subst IsLinked (sym (others other apart)) (but.linked key other leads));
          used = λ other apart. ap (is_unused inodes other) (others other apart) ∙ but.used other apart;
          places = omega (arith, longer, some);
        })

-- ---- no path leads there

-- no path leads to a number that is free
pub unnamed_free : (inodes : Inodes) (names : Names) → NamesFit inodes names → (inode : ℕ) → row_at inodes.attributes inode ≡ None → HasNoPath names inode
unnamed_free inodes names fits inode free key leads = subst IsLinked free (fits.linked key inode leads)

pub none_named : (root : ℕ) → HasNoPath empty root
none_named root key leads = let both : None ≡ Some root = sym (get-empty key_cmp key) ∙ leads in absurd (cc)

-- ---- before anything is made

pub none_there : (limits : UserLimits) (inode : ℕ) → row_at (no_inodes limits).attributes inode ≡ None
none_there limits zero = refl
none_there limits (suc inode) = refl

pub none_fit : (limits : UserLimits) → NamesFit (no_inodes limits) empty
none_fit limits = record {
  linked = λ key inode leads. absurd (none_named inode key leads);
  used = λ inode. ap (is_unused (no_inodes limits) inode) (none_there limits inode);
  places = omega arith;
}
