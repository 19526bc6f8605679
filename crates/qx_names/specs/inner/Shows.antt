-- Which names the directories show. No public clause cites this module.
use Rattle.std.specs.Prelude.{ℕ, ◌≡◌, ◌==◌, Bool, List, [], ◌∷◌, Option, None, Some, if◌then◌else◌}
use Rattle.std.specs.Cmp.Lexicographic.{lists_total, nat_list_cmp_total}
use Rattle.std.specs.Cmp.{IsTotalOrder, nat_cmp_total, on_total, then_total}
use Rattle.std.specs.FinMap.{IsAntisymmetric, get, nat_cmp-IsAntisymmetric, same_map, slice_cmp-IsAntisymmetric}
use Rattle.std.specs.List.{list_any}
use Rattle.std.specs.Ordering.{ordering_then}
use Rattle.std.specs.declared.cmp.Ordering.{Ordering}
use Rattle.std.specs.declared.cmp.Ordering.TheVariants.{Less, Equal, Greater}
use Rattle.std.proofs.Common.{refl, sym, ◌∙◌}
use mathlib.Core.HLevel.{Σ_prop_path}
use Rattle.std.proofs.Props.{props}
use Rattle.qx_machine.specs.Names.{Key, Names, key_cmp}

-- whether an inode is a mount's root
abbrev pub is_root : List ℕ → ℕ → Bool
is_root roots inode = list_any (λ root. root == inode) roots

abbrev pub name_looked_up : (ℕ → List ℕ → Option ℕ) → Option ℕ → List ℕ → Option ℕ
name_looked_up entry None name = None
name_looked_up entry (Some directory) name = entry directory name

-- where a path leads, walked over the directories' entries
abbrev pub reached : (ℕ → Bool) → (ℕ → List ℕ → Option ℕ) → ℕ → List (List ℕ) → Option ℕ
reached root entry mount [] = if root mount then Some mount else None
reached root entry mount (name ∷ above) = name_looked_up entry (reached root entry mount above) name

-- the directories show these names: each path leads where the walk ends, no two paths lead to one inode, and what has
-- entries is led to
pub record Shows (root : ℕ → Bool) (entry : ℕ → List ℕ → Option ℕ) (names : Names) : Type 0 where
  pub shown : (mount : ℕ) (path : List (List ℕ)) → get names (mount, path) ≡ reached root entry mount path
  pub single : (one two : Key) (inode : ℕ) → get names one ≡ Some inode → get names two ≡ Some inode → one ≡ two
  pub held : (directory : ℕ) (name : List ℕ) (inode : ℕ) → entry directory name ≡ Some inode → (key : Key) × (get names key ≡ Some directory)

pub key_total : IsTotalOrder key_cmp
key_total = then_total (on_total (λ (key : Key). key.0) nat_cmp_total) (on_total (λ (key : Key). key.1) (lists_total nat_list_cmp_total))

then_first : (one two : Ordering) → ordering_then one two ≡ Equal → one ≡ Equal
then_first Less two e = e
then_first Equal two e = refl
then_first Greater two e = e

then_second : (one two : Ordering) → ordering_then one two ≡ Equal → two ≡ Equal
then_second Less two e = cc
then_second Equal two e = e
then_second Greater two e = cc

pub key-IsAntisymmetric : IsAntisymmetric key_cmp
key-IsAntisymmetric one two e =
    let mounts = nat_cmp-IsAntisymmetric one.0 two.0 (then_first _ _ e) in
    let paths = slice_cmp-IsAntisymmetric (slice_cmp-IsAntisymmetric nat_cmp-IsAntisymmetric) one.1 two.1 (then_second _ _ e) in
    λ i. (mounts i, paths i)

module _ (root : ℕ → Bool) (entry : ℕ → List ℕ → Option ℕ) where
  same_names : (one two : Names) → Shows root entry one → Shows root entry two → one ≡ two
  same_names one two a b = same_map key_total key-IsAntisymmetric one two (λ key. a.shown key.0 key.1 ∙ sym (b.shown key.0 key.1))

  Option-set : (one two : Option ℕ) → IsProp (one ≡ two)
  Option-set one two = hlevel props

  keys_prop : (names : Names) → Shows root entry names → (inode : ℕ) → IsProp ((key : Key) × (get names key ≡ Some inode))
  keys_prop names s inode a b = Σ_prop_path (λ key. Option-set (get names key) (Some inode)) (s.single a.0 b.0 inode a.1 b.1)

  shown_prop : (names : Names) → IsProp ((mount : ℕ) (path : List (List ℕ)) → get names (mount, path) ≡ reached root entry mount path)
  shown_prop names = hlevel props

  single_prop : (names : Names) → IsProp ((one two : Key) (inode : ℕ) → get names one ≡ Some inode → get names two ≡ Some inode → one ≡ two)
  single_prop names = hlevel props

  pub Shows-prop : (names : Names) → IsProp (Shows root entry names)
  Shows-prop names a b i = record {
    shown = shown_prop names a.shown b.shown i;
    single = single_prop names a.single b.single i;
    held = λ directory name inode e. keys_prop names a directory (a.held directory name inode e) (b.held directory name inode e) i;
  }

  -- the directories determine the names
  pub shown_once : IsProp ((names : Names) × Shows root entry names)
  shown_once a b = Σ_prop_path Shows-prop (same_names a.0 b.0 a.1 b.1)

  -- the names that are kept beside the directories
  unfoldable pub shown_names : (names : Names) × Shows root entry names → Names
  shown_names kept = kept.0
