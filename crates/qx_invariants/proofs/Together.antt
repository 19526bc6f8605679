-- All that holds of a user's resources, at boot and whatever happens.
use Rattle.std.proofs.Common.{◌≡◌, inl, inr, ℕ, zero, suc, ◌+◌, false, List, [], ◌∷◌, refl, sym, ap, ◌∙◌, arith}
use Rattle.std.specs.Prelude.{Option, Some, None, if◌then◌else◌, is_some, length, option_map, replicate}
use Rattle.std.specs.FinMap.{empty, get, get-empty}
use Rattle.std.proofs.lemmas.List.{length-replicate}
use Rattle.std.proofs.lemmas.Option.{same_Some}
use Rattle.qx_types.specs.UserLimits.{AreLimits, UserLimits}
use Rattle.qx_types.specs.declared.limits.TheConstants.Limits.{INODES, PROCESSES}
use Rattle.qx_machine.specs.declared.rows.Attribute.{Attribute}
use Rattle.qx_machine.specs.declared.rows.Kind.{Kind}
use Rattle.qx_machine.specs.declared.rows.Kind.TheVariants as kind
use Rattle.qx_machine.specs.declared.rows.Ocb.{Ocb}
use Rattle.qx_machine.specs.declared.rows.Pulse.{Pulse}
use Rattle.qx_machine.specs.declared.rows.WaitingCall.{WaitingCall}
use Rattle.qx_machine.specs.Attributes.{root_attribute}
use Rattle.qx_machine.specs.Mounting.{new_resources}
use Rattle.qx_machine.specs.Inodes.{is_unused}
use Rattle.qx_machine.specs.Names.{Key, key_cmp, root_key, under}
use Rattle.qx_machine.specs.Pipes.{Pipe}
use Rattle.qx_machine.specs.Resources.{Resources}
use Rattle.qx_isolation.specs.Rows.{row_at}
use Rattle.qx_paths.specs.Prefixes.{MountPoint}
use Rattle.std.proofs.lemmas.List.Elements.{All-cons, All-nil}
use Rattle.qx_iofunc.proofs.StoreLemmas.{row_at-none}
use Rattle.qx_invariants.specs.Changes.{IsDirectoryAt, ResourceChange, MayHappen, with_change}
use Rattle.qx_invariants.specs.Holds.{HasContents, HasLimits, HasMade, HasMounts, HasNames, HasOpenWaiters, HasRoom, HasSettledPipes, HasTree, HasUses, IsOwnedBy, calls_of, file_of, in_inode}
use Rattle.qx_invariants.proofs.Contents.{contents-keep, settled-keep, limits-keep}
use Rattle.qx_invariants.proofs.Events.{HasEvents, events-keep}
use Rattle.qx_names.proofs.Keys.{insert-at, insert-cases, not_root}
use Rattle.qx_invariants.proofs.Made.{made-keeps}
use Rattle.qx_invariants.proofs.Named.{names-keep}
use Rattle.qx_invariants.proofs.Rooms.{room-keeps, uses-keep}
use Rattle.qx_machine.specs.Files.{size_of, total_size}
use Rattle.std.proofs.lemmas.List.Folds.{sum_by-replicate}
use Rattle.qx_invariants.proofs.Trees.{mounts-keep, tree-keeps}
use Rattle.qx_invariants.proofs.Astray.{astray-keeps}
use Rattle.qx_invariants.specs.Waits.{is_astray, count_waiting_in}

-- ---- at boot

pub none_there : {A : Type 0} (n : ℕ) → row_at {A = A} (None ∷ []) n ≡ None
none_there zero = refl
none_there (suc n) = refl

no_files_size : (places : ℕ) → total_size (replicate places None) ≡ 0
no_files_size places = let all = sum_by-replicate size_of places None in omega (arith, all)

module _ (limits : UserLimits) (user : ℕ) (name : List ℕ) where
  abbrev start : Resources
  start = new_resources limits user name

  pub the_root : (inode : ℕ) (attribute : Attribute) → row_at start.inodes.attributes inode ≡ Some attribute → (inode ≡ 1) × (attribute ≡ root_attribute user)
  the_root zero attribute is = absurd (cc)
  the_root (suc zero) attribute is = (omega arith, sym (same_Some _ _ is))
  the_root (suc (suc inode)) attribute is = absurd (cc)

  boot_room : AreLimits limits → HasRoom start
  boot_room in_range = record {
    inodes = λ inode attribute is. let one = (the_root inode attribute is).0 in let some = in_range.inodes.0 in (omega (arith, one), omega (arith, one, some));
    most_inodes = refl;
    most_blocks = refl;
    limits = in_range;
    mounts = in_range.mounts.0;
    some_inodes = omega arith;
    blocks = λ number block is. let none : None ≡ Some block = sym (none_there number) ∙ is in absurd (cc);
    some_blocks = omega arith;
    files = length-replicate {A = Option (List ℕ)} (INODES + 1) None;
    pipes = length-replicate {A = Option (Pipe WaitingCall)} (INODES + 1) None;
  }

  nothing_in : {A : Type 0} (content : Kind → ℕ → Option A) → content kind.Directory 0 ≡ None → (inode : ℕ) → in_inode content (row_at start.inodes.attributes inode) ≡ None
  nothing_in content none zero = refl
  nothing_in content none (suc zero) = none
  nothing_in content none (suc (suc inode)) = refl

  boot_contents : HasContents start
  boot_contents = record {
    files = λ inode. ap (option_map _) (row_at-none (INODES + 1) inode) ∙ sym (nothing_in file_of refl inode);
    pipes = λ inode. ap (option_map _) (row_at-none (INODES + 1) inode) ∙ sym (nothing_in calls_of refl inode);
  }

  boot_settled : HasSettledPipes start
  boot_settled = record { settled = λ inode pipe is. let none : None ≡ Some pipe = sym (row_at-none (INODES + 1) inode) ∙ is in absurd (cc) }

  pub only_root : (key : Key) (inode : ℕ) → get start.names key ≡ Some inode → (key ≡ root_key 1) × (1 ≡ inode)
  only_root key inode leads = elim (insert-cases empty (root_key 1) 1 key inode leads) [
    | inl is ↦ is
    | inr was ↦ let none : None ≡ Some inode = sym (get-empty key_cmp key) ∙ was in absurd (cc)
  ]

  boot_names : HasNames start
  boot_names = record {
    leads = λ key inode leads. ap (λ n. is_some (row_at start.inodes.attributes n)) (sym (only_root key inode leads).1);
    single = λ inode one two to_one to_two. (only_root one inode to_one).0 ∙ sym (only_root two inode to_two).0;
    roots = λ root inode leads. let is = only_root (root_key root) inode leads in sym is.1 ∙ ap (λ (key : Key). key.0) (sym is.0);
    links = λ inode attribute there. let is = the_root inode attribute there in
        inl (record { links = ap (λ (a : Attribute). a.links) is.1; key = root_key 1; leads = insert-at empty (root_key 1) 1 ∙ ap Some (sym is.0) });
    used = boot_used;
    opened = λ number block is. let none : None ≡ Some block = sym (none_there number) ∙ is in absurd (cc);
  }
    where
      boot_used : (inode : ℕ) → is_unused start.inodes inode (row_at start.inodes.attributes inode) ≡ false
      boot_used zero = refl
      boot_used (suc zero) = refl
      boot_used (suc (suc inode)) = refl

  boot_tree : HasTree start
  boot_tree = record { entries = λ above name inode leads. absurd (not_root 1 above name (only_root (under above name) inode leads).0) }

  boot_waiters : HasOpenWaiters start
  boot_waiters = record { none_astray = λ inode. ap (count_waiting_in (is_astray start.inodes.blocks inode)) (row_at-none (INODES + 1) inode) }

  boot_rooted : HasMounts start
  boot_rooted = record {
    rooted = All-cons (λ (mount : MountPoint). IsDirectoryAt start (root_key mount.root)) _ []
        (record { inode = 1; attribute = root_attribute user; leads = insert-at empty (root_key 1) 1; there = refl; directory = refl }) (All-nil (λ (mount : MountPoint). IsDirectoryAt start (root_key mount.root)));
  }

  pub boot_owned : IsOwnedBy user start
  boot_owned = record { user = refl; inodes = λ inode attribute there. ap (λ (a : Attribute). a.owner) (the_root inode attribute there).1 }

  boot_limits : HasLimits start
  boot_limits = record {
    file = λ inode bytes is. let none : None ≡ Some bytes = sym (row_at-none (INODES + 1) inode) ∙ is in absurd (cc);
    files = let none = no_files_size (INODES + 1) in omega (arith, none);
    pipe = λ inode pipe is. let none : None ≡ Some pipe = sym (row_at-none (INODES + 1) inode) ∙ is in absurd (cc);
  }

  boot_events : HasEvents start
  boot_events = record {
    few = let none = sum_by-replicate {X = List Pulse} length (PROCESSES + 1) [] in omega (arith, none);
    queues = length-replicate {A = List Pulse} (PROCESSES + 1) [];
  }

  boot_made : HasMade start
  boot_made = record { once = λ number. ap (λ (row : Option Ocb). if is_some row then 1 else 0) (sym (none_there number)) }

  boot_uses : HasUses start
  boot_uses = record { used = λ number block is. let none : None ≡ Some block = sym (none_there number) ∙ is in absurd (cc) }

-- ---- all of it

pub record Holds (r : Resources) : Type 0 where
  pub room : HasRoom r
  pub contents : HasContents r
  pub settled : HasSettledPipes r
  pub names : HasNames r
  pub tree : HasTree r
  pub waiters : HasOpenWaiters r
  pub mounts : HasMounts r
  pub limits : HasLimits r
  pub events : HasEvents r
  pub uses : HasUses r
  pub made : HasMade r

pub holds-keep : (change : ResourceChange) (r : Resources) → MayHappen change r → Holds r → Holds (with_change change r)
holds-keep change r may h = record { room = room-keeps change r may h.room; contents = contents-keep change r may h.room h.contents; settled = settled-keep change r may h.settled; names = names-keep change r may h.room h.tree h.names; tree = tree-keeps change r may h.room h.names h.tree; waiters = astray-keeps change r may h.room h.contents h.waiters; mounts = mounts-keep change r may h.room h.tree h.names h.mounts; limits = limits-keep change r may h.limits; events = events-keep change r may h.events; uses = uses-keep change r may h.room h.uses; made = made-keeps change r may h.room h.made }

pub boot_holds : (limits : UserLimits) → AreLimits limits → (user : ℕ) (name : List ℕ) → Holds (new_resources limits user name)
boot_holds limits in_range user name = record {
  room = boot_room limits user name in_range;
  contents = boot_contents limits user name;
  settled = boot_settled limits user name;
  names = boot_names limits user name;
  tree = boot_tree limits user name;
  waiters = boot_waiters limits user name;
  mounts = boot_rooted limits user name;
  limits = boot_limits limits user name;
  events = boot_events limits user name;
  uses = boot_uses limits user name;
  made = boot_made limits user name;
}
