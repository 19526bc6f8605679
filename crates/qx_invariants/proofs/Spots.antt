-- Where a path of components leads: to a spot in a directory that is named.
use Rattle.std.proofs.Common.{◌≡◌, ℕ, List, [], ◌∷◌, Bool, true, refl}
use Rattle.std.specs.Prelude.{Some, Result, Ok, Err, IfOk}
use Rattle.std.specs.FinMap.{get}
use Rattle.std.specs.List.{AllByRecursion}
use Rattle.qx_base.specs.declared.errno.Errno.{Errno}
use Rattle.qx_base.specs.declared.errno.Errno.TheVariants.{ENOENT, ENOTDIR}
use Rattle.qx_wire.specs.Rests.{is_component}
use Rattle.qx_machine.specs.declared.rows.Attribute.{Attribute}
use Rattle.qx_isolation.specs.Judgements.{found, need}
use Rattle.qx_machine.specs.Names.{Key, Spot, is_directory, root_key, search, spot, start, under, walk}
use Rattle.qx_machine.specs.Resources.{Resources}
use Rattle.qx_isolation.specs.Rows.{row_at}
use Rattle.qx_invariants.specs.Changes.{IsDirectoryAt}
use Rattle.qx_machine.proofs.Gives.{Gives, found-row, gives_done, gives_error, gives_on, gives-value, need-true}

-- each name is a component
abbrev pub AreComponents : List (List ℕ) → Type 0
AreComponents names = AllByRecursion (λ name. is_component name ≡ true) names

-- a spot is at a name in a directory of a mount with this root, and what is there is what that name leads to
pub record IsSpot (r : Resources) (root : ℕ) (at : Spot) : Type 0 where
  pub above : Key
  pub name : List ℕ
  pub key_is : at.key ≡ under above name
  pub component : is_component name ≡ true
  pub root_is : root ≡ above.0
  pub inode_is : at.inode ≡ get r.names at.key
  pub directory : IsDirectoryAt r above

module _ (r : Resources) (user : ℕ) where
  directory-at : (key : Key) (inode : ℕ) → get r.names key ≡ Some inode → (searched : Bool) → search r.inodes user inode ≡ Ok searched → IsDirectoryAt r key
  directory-at key inode leads searched is =
      gives-value (λ _. IsDirectoryAt r key) (search r.inodes user inode) searched is
      (gives_on _ (found (row_at r.inodes.attributes inode) ENOENT) _ (λ attribute there.
      gives_on _ (need (is_directory attribute.kind) ENOTDIR) _ (λ is_one directory.
      record { gives = by attribute (found-row _ _ attribute there) (need-true _ _ is_one directory) _ })))
    where
      by : (attribute : Attribute) → row_at r.inodes.attributes inode ≡ Some attribute → is_directory attribute.kind ≡ true → (given : Result Bool Errno) → IfOk given (λ _. IsDirectoryAt r key)
      by attribute there directory (Ok value) = record { inode = inode; attribute = attribute; leads = leads; there = there; directory = directory }
      by attribute there directory (Err error) = tt

  walk-gives : (inode : ℕ) (key : Key) (name : List ℕ) (rest : List (List ℕ)) → get r.names key ≡ Some inode → is_component name ≡ true → AreComponents rest → Gives (IsSpot r key.0) (walk r.inodes r.names user inode key name rest)
  walk-gives inode key name [] leads component more =
      gives_on _ (search r.inodes user inode) _ (λ searched is.
      gives_done _ _ (record { above = key; name = name; key_is = refl; component = component; root_is = refl; inode_is = refl; directory = directory-at key inode leads searched is }))
  walk-gives inode key name (further ∷ rest) leads component more =
      gives_on _ (search r.inodes user inode) _ (λ searched is.
      gives_on _ (found (get r.names (under key name)) ENOENT) _ (λ next there.
      walk-gives next (under key name) further rest (found-row _ _ next there) more.0 more.1))

  pub spot-gives : (root : ℕ) (rest : List (List ℕ)) (at_root : Errno) → AreComponents rest → Gives (IsSpot r root) (spot r.inodes r.names user root rest at_root)
  spot-gives root [] at_root components = gives_error _ _
  spot-gives root (name ∷ rest) at_root components =
      gives_on _ (start r.names root) _ (λ first is. walk-gives first (root_key root) name rest (found-row _ _ first is) components.0 components.1)
