-- What lasts whatever a deed does: the mounts, of which kind inodes are, and who the clients are of what is open; and which open control blocks go with a client.
use Rattle.std.proofs.Common.{◌≡◌, ◌≢◌, inl, inr, ℕ, ◌<◌, ◌==◌, List, [], ◌∷◌, refl, sym, ap, ◌∙◌, subst, arith}
use Rattle.std.specs.Prelude.{Option, Some, None, Result, Ok, Err, slice_set}
use Rattle.std.specs.List.{AllByRecursion, count_by}
use Rattle.std.proofs.lemmas.Bool.{cases_eq, eq-eqb, ne_eqb}
use Rattle.qx_base.specs.declared.errno.Errno.{Errno}
use Rattle.qx_base.specs.declared.errno.Errno.TheVariants.{EBADF}
use Rattle.qx_types.specs.declared.names.Manager.{Manager}
use Rattle.qx_machine.specs.declared.rows.Client.{Client}
use Rattle.qx_machine.specs.declared.rows.Kind.{Kind}
use Rattle.qx_machine.specs.declared.rows.Ocb.{Ocb}
use Rattle.qx_machine.specs.declared.rows.WaitingCall.{WaitingCall}
use Rattle.qx_machine.specs.Defaults.{close_ocb, is_own, own_block, pipe_in, unopened, without_block, without_unused}
use Rattle.qx_machine.specs.Events.{disarmed}
use Rattle.qx_machine.specs.Functions.{Deed}
use Rattle.qx_machine.specs.Inodes.{new_attribute}
use Rattle.qx_isolation.specs.Judgements.{◌>>=◌}
use Rattle.qx_machine.specs.Managers.{close_all, or_unreplied, own_kind}
use Rattle.qx_machine.specs.Names.{under}
use Rattle.qx_machine.specs.PipeManager.{released}
use Rattle.qx_machine.specs.Pipes.{Pipe}
use Rattle.qx_machine.specs.Resources.{Resources}
use Rattle.qx_isolation.specs.Rows.{row_at}
use Rattle.qx_isolation.proofs.Places.{row_at-set_cases, row_at-set_other, set-row_at}
use Rattle.qx_attr.specs.inner.Counts.{one}
use Rattle.qx_iofunc.proofs.PlaceLemmas.{row-freed}
use Rattle.qx_invariants.specs.Changes.{Abandons, Closes, Comes, Fills, IsOwnInode, MayHappen, Mounts, Moves, Notifies, Opens, Renames, ResourceChange, ToOffset, OneMore, OneLess, Touches, Unlinks, WithClient, Writes, moved, with_change, with_named, with_unlinked}
use Rattle.qx_invariants.specs.Holds.{HasRoom}
use Rattle.qx_invariants.proofs.Counts.{count-cons}
use Rattle.qx_invariants.proofs.Deeds.{close_ocb-gives, or_unreplied-closed}
use Rattle.qx_invariants.proofs.Managed.{HoldsKinds, IsFitting, kinds-keep}
use Rattle.qx_invariants.proofs.Rows.{block_is_new, content_cases, empty_cases, freed, put_cases, the-some, unused_cases, with_row-was}
use Rattle.qx_invariants.proofs.Together.{Holds, holds-keep}
use Rattle.qx_invariants.proofs.Told.{IsClosing, Told, nothing, told_by}
use Rattle.qx_invariants.proofs.Trees.{same_mounts}

-- what goes when an inode does, are no blocks
pub unused_blocks : (own : Kind) (inode : ℕ) (r : Resources) → (without_unused own inode r).inodes.blocks ≡ r.inodes.blocks
unused_blocks own inode r =
    unused_cases (λ (s : Resources). s.inodes.blocks ≡ r.inodes.blocks) own inode r
    (λ gone. content_cases (λ (s : Resources). s.inodes.blocks ≡ r.inodes.blocks) own inode (freed inode r) (λ is. refl) (λ is. refl) (λ is. refl)) (λ stays. refl)

-- ---- clients

-- what is opened is for such a client
abbrev pub IsFor : (Client → Type 0) → ResourceChange → Type 0
IsFor C (Opens number block at) = C block.client
IsFor C _ = Unit {0}

-- all that is open is for such clients
abbrev pub AreFor : (Client → Type 0) → Resources → Type 0
AreFor C r = (number : ℕ) (block : Ocb) → row_at r.inodes.blocks number ≡ Some block → C block.client

module _ (C : Client → Type 0) where
  same_for : (r now : Resources) → now.inodes.blocks ≡ r.inodes.blocks → AreFor C r → AreFor C now
  same_for r now same h number block there = h number block (ap (λ rows. row_at rows number) (sym same) ∙ there)

  for-keeps : (change : ResourceChange) (r : Resources) → MayHappen change r → HasRoom r → IsFor C change → AreFor C r → AreFor C (with_change change r)
  for-keeps (Comes inode directory name which mode moment) r may room is h =
      empty_cases (AreFor C) which inode (with_named inode (under directory name) (new_attribute which mode r.user moment) r) (λ e. h) (λ e. h) (λ e. h)
  for-keeps (Opens number block at) r may room is h = λ n other there. elim (put_cases r.inodes.blocks number block (block_is_new r.inodes number room.some_blocks may.0).within n other there) [
    | inl put ↦ subst (λ (b : Ocb). C b.client) put.1 is
    | inr was ↦ h n other was
  ]
  for-keeps (Moves number move) r may room is h = λ n now there. let was = with_row-was r.inodes.blocks number (moved move) n now there in elim was.2 [
    | inl stays ↦ subst (λ (b : Ocb). C b.client) stays.1 (h n was.0 was.1)
    | inr one ↦ subst C (sym (may was.0 (ap (row_at r.inodes.blocks) (sym one.0) ∙ was.1)).client ∙ ap (λ (b : Ocb). b.client) one.1) (h n was.0 was.1)
  ]
  for-keeps (Unlinks own directory name inode mtime ctime) r may room is h = let unlinked = with_unlinked inode (under directory name) mtime ctime r in same_for unlinked (without_unused own inode unlinked) (unused_blocks own inode unlinked) h
  for-keeps (Closes own number block parting) r may room is h =
      same_for (without_block number r) (without_unused own block.inode (without_block number r)) (unused_blocks own block.inode (without_block number r)) (λ n other there. elim (row_at-set_cases r.inodes.blocks number n None other there) [ inl was ↦ h n other was | inr none ↦ absurd (cc) ])
  for-keeps _ r may room is h = h

-- ---- all that lasts

module _ (first : Resources) (C : Client → Type 0) where
  abbrev pub IsFitted : ResourceChange → Type 0
  IsFitted change = IsFitting first.mounts change × IsFor C change

  pub record Lasts (r : Resources) : Type 0 where
    pub mounts : r.mounts ≡ first.mounts
    pub kinds : HoldsKinds r
    pub clients : AreFor C r

  -- while nothing happens but by deeds, and what comes and is opened is as it has to be
  pub record Lasting (r : Resources) (told : Told) : Type 0 where
    pub holds : Holds r
    pub lasts : told.others ≡ [] → AllByRecursion IsFitted told.seen → Lasts r

  pub lasting_first : Holds first → HoldsKinds first → AreFor C first → Lasting first nothing
  lasting_first holds kinds clients = record { holds = holds; lasts = λ none all. record { mounts = refl; kinds = kinds; clients = clients } }

  lasts-keep : (change : ResourceChange) (r : Resources) → MayHappen change r → Holds r → IsFitted change → (with_change change r).mounts ≡ r.mounts → Lasts r → Lasts (with_change change r)
  lasts-keep change r may holds is same h = record {
    mounts = same ∙ h.mounts;
    kinds = kinds-keep change r may holds (subst (λ mounts. IsFitting mounts change) (sym h.mounts) is.0) h.kinds;
    clients = for-keeps C change r may holds.room is.1 h.clients;
  }

  -- what is not seen
  not_seen : (change : ResourceChange) (r : Resources) (told : Told) → MayHappen change r → IsFitted change → (with_change change r).mounts ≡ r.mounts → Lasting r told → told.others ≡ [] → AllByRecursion IsFitted told.seen → Lasts (with_change change r)
  not_seen change r told may is same h none all = lasts-keep change r may h.holds is same (h.lasts none all)

  -- what is
  is_seen : (change : ResourceChange) (r : Resources) (told : Told) → MayHappen change r → (with_change change r).mounts ≡ r.mounts → Lasting r told → told.others ≡ [] → AllByRecursion IsFitted (change ∷ told.seen) → Lasts (with_change change r)
  is_seen change r told may same h none all = lasts-keep change r may h.holds all.0 same (h.lasts none all.1)

  now-lasts : (change : ResourceChange) (r : Resources) (told : Told) → MayHappen change r → Lasting r told → (told_by change told).others ≡ [] → AllByRecursion IsFitted (told_by change told).seen → Lasts (with_change change r)
  now-lasts (Mounts mount) r told may h = λ none all. absurd (cc)
  now-lasts (Abandons process) r told may h = λ none all. absurd (cc)
  now-lasts (Comes inode directory name which mode moment) r told may h = is_seen (Comes inode directory name which mode moment) r told may (same_mounts (Comes inode directory name which mode moment) r) h
  now-lasts (Opens number block at) r told may h = is_seen (Opens number block at) r told may refl h
  now-lasts (Closes own number block parting) r told may h = is_seen (Closes own number block parting) r told may (same_mounts (Closes own number block parting) r) h
  now-lasts (Moves number (ToOffset offset)) r told may h = not_seen (Moves number (ToOffset offset)) r told may (tt, tt) refl h
  now-lasts (Moves number OneMore) r told may h = is_seen (Moves number OneMore) r told may refl h
  now-lasts (Moves number OneLess) r told may h = is_seen (Moves number OneLess) r told may refl h
  now-lasts (Touches inode mode mtime ctime) r told may h = not_seen (Touches inode mode mtime ctime) r told may (tt, tt) refl h
  now-lasts (Writes inode moment bytes) r told may h = not_seen (Writes inode moment bytes) r told may (tt, tt) refl h
  now-lasts (Fills inode moment after came) r told may h = not_seen (Fills inode moment after came) r told may (tt, tt) refl h
  now-lasts (Unlinks own directory name inode mtime ctime) r told may h = not_seen (Unlinks own directory name inode mtime ctime) r told may (tt, tt) (same_mounts (Unlinks own directory name inode mtime ctime) r) h
  now-lasts (Renames above name directory next) r told may h = not_seen (Renames above name directory next) r told may (tt, tt) refl h
  now-lasts (Notifies events) r told may h = not_seen (Notifies events) r told may (tt, tt) refl h

  pub lasting-keeps : (change : ResourceChange) (r : Resources) (told : Told) → MayHappen change r → Lasting r told → Lasting (with_change change r) (told_by change told)
  lasting-keeps change r told may h = record { holds = holds-keep change r may h.holds; lasts = now-lasts change r told may h }

  -- what is closed changes nothing of that
  pub closing_fitted : (seen : List ResourceChange) → AllByRecursion IsClosing seen → AllByRecursion IsFitted seen
  closing_fitted [] all = tt
  closing_fitted (Closes own number block parting ∷ seen) all = ((tt, tt), closing_fitted seen all.1)
  closing_fitted (_ ∷ seen) all = absurd all.0

-- ---- blocks that go with a client

module _ (own : Kind) (r : Resources) (number moment : ℕ) where
  freed_blocks : (inode : ℕ) (row : Option (Pipe WaitingCall)) → (unopened own inode (released (without_block number r) number inode moment row)).state.inodes.blocks ≡ slice_set r.inodes.blocks number None
  freed_blocks inode None = unused_blocks own inode (without_block number r)
  freed_blocks inode (Some pipe) = unused_blocks own inode (released (without_block number r) number inode moment (Some pipe)).state

  abbrev left_by : Result Ocb Errno → List (Option Ocb)
  left_by given = (or_unreplied r (given >>= (λ block. Ok (unopened own block.inode (released (without_block number r) number block.inode moment (pipe_in own r block.inode)))) >>= (λ (deed : Deed Resources). Ok (record deed { state = record deed.state { events = disarmed number deed.state.events } })))).state.inodes.blocks

  -- one that is of the manager's own is closed
  ocb_blocks : (block : Ocb) → row_at r.inodes.blocks number ≡ Some block → IsOwnInode own r block.inode → (or_unreplied r (close_ocb own r number moment)).state.inodes.blocks ≡ slice_set r.inodes.blocks number None
  ocb_blocks block there owned = ap left_by is_own_block ∙ freed_blocks block.inode (pipe_in own r block.inode)
    where
      is_own_block : own_block r.inodes number own ≡ Ok block
      is_own_block = rw (there, owned.there, owned.owned) refl

  -- one that is not there stays away
  ocb_none : row_at r.inodes.blocks number ≡ None → (or_unreplied r (close_ocb own r number moment)).state ≡ r
  ocb_none none = ap (λ (given : Result Ocb Errno). (or_unreplied r (given >>= (λ block. Ok (unopened own block.inode (released (without_block number r) number block.inode moment (pipe_in own r block.inode)))) >>= (λ (deed : Deed Resources). Ok (record deed { state = record deed.state { events = disarmed number deed.state.events } })))).state) is_error
    where
      is_error : own_block r.inodes number own ≡ Err EBADF
      is_error = rw none refl

-- resources in which what a manager has is of its kind
pub record AreSound (r : Resources) : Type 0 where
  pub holds : Holds r
  pub kinds : HoldsKinds r

-- what is there of these numbers is of clients of the manager
abbrev pub AreOfManager : Manager → Resources → List ℕ → Type 0
AreOfManager manager r numbers = AllByRecursion (λ number. (block : Ocb) → row_at r.inodes.blocks number ≡ Some block → own_kind block.client.server.manager ≡ own_kind manager) numbers

-- these are gone, and no other
pub record AreGone (r now : Resources) (numbers : List ℕ) : Type 0 where
  pub gone : AllByRecursion (λ number. row_at now.inodes.blocks number ≡ None) numbers
  pub left : (number : ℕ) (block : Ocb) → row_at now.inodes.blocks number ≡ Some block → row_at r.inodes.blocks number ≡ Some block
  pub kept : (number : ℕ) → count_by (λ other. other == number) numbers ≡ 0 → row_at now.inodes.blocks number ≡ row_at r.inodes.blocks number

module _ (manager : Manager) (moment : ℕ) where
  abbrev closed_one : Resources → ℕ → Deed Resources
  closed_one r number = or_unreplied r (close_ocb (own_kind manager) r number moment)

  one_sound : (r : Resources) (number : ℕ) → AreSound r → AreSound (closed_one r number).state
  one_sound r number h =
      let any : Client → Type 0 = λ client. Unit {0} in
      let start = lasting_first r any h.holds h.kinds (λ n block there. tt) in
      let closed = or_unreplied-closed (Lasting r any) (lasting-keeps r any) [] [] r start (own_kind manager) number WithClient _ (close_ocb-gives (Lasting r any) (lasting-keeps r any) [] [] r start (own_kind manager) number moment WithClient (λ block there. tt)) in
      record { holds = closed.kept.holds; kinds = (closed.kept.lasts refl (closing_fitted r any closed.then (closed.only tt))).kinds }

  -- one goes, if it is of the manager's own
  one_gone : (r : Resources) (number : ℕ) → AreSound r → ((block : Ocb) → row_at r.inodes.blocks number ≡ Some block → own_kind block.client.server.manager ≡ own_kind manager) → (closed_one r number).state.inodes.blocks ≡ slice_set r.inodes.blocks number None
  one_gone r number h of_manager = by (row_at r.inodes.blocks number) refl
    where
      by : (row : Option Ocb) → row_at r.inodes.blocks number ≡ row → (closed_one r number).state.inodes.blocks ≡ slice_set r.inodes.blocks number None
      by None none = ap (λ (s : Resources). s.inodes.blocks) (ocb_none (own_kind manager) r number moment none) ∙ (sym (set-row_at r.inodes.blocks number) ∙ ap (slice_set r.inodes.blocks number) none)
      by (Some block) there =
          let attribute = the-some (row_at r.inodes.attributes block.inode) (h.holds.names.opened number block there) in
          ocb_blocks (own_kind manager) r number moment block there (record {
            attribute = attribute.0;
            there = attribute.1;
            owned = ap (λ own. is_own own attribute.0.kind) (sym (of_manager block there)) ∙ h.kinds.kinds.opened number block attribute.0 there attribute.1;
          })

  still_of_manager : (r now : Resources) (numbers : List ℕ) → ((number : ℕ) (block : Ocb) → row_at now.inodes.blocks number ≡ Some block → row_at r.inodes.blocks number ≡ Some block) → AreOfManager manager r numbers → AreOfManager manager now numbers
  still_of_manager r now [] left all = tt
  still_of_manager r now (number ∷ numbers) left all = (λ block there. all.0 block (left number block there), still_of_manager r now numbers left all.1)

  pub all_gone : (numbers : List ℕ) (r : Resources) → AreSound r → AreOfManager manager r numbers → AreGone r (close_all manager moment numbers r).state numbers
  all_gone [] r h all = record { gone = tt; left = λ number block there. there; kept = λ number none. refl }
  all_gone (number ∷ numbers) r h all =
      let first : Resources = (closed_one r number).state in
      let blocks : first.inodes.blocks ≡ slice_set r.inodes.blocks number None = one_gone r number h all.0 in
      let first_left : (n : ℕ) (block : Ocb) → row_at first.inodes.blocks n ≡ Some block → row_at r.inodes.blocks n ≡ Some block = λ n block there.
      set_left r.inodes.blocks number n block (ap (λ rows. row_at rows n) (sym blocks) ∙ there) in
      let rest : AreGone first (close_all manager moment numbers first).state numbers = all_gone numbers first (one_sound r number h) (still_of_manager r first numbers first_left all.1) in
      record {
        gone = (stays_away first (close_all manager moment numbers first).state number rest.left (ap (λ rows. row_at rows number) blocks ∙ row-freed r.inodes.blocks number), rest.gone);
        left = λ n block there. first_left n block (rest.left n block there);
        kept = λ n none.
            let parts = count-cons (λ other. other == n) number numbers in
            let apart : n ≢ number = λ same. let its : one (number == n) ≡ 1 = ap one (eq-eqb number n (sym same)) in omega (arith, parts, none, its) in
            rest.kept n (omega (arith, parts, none)) ∙ (ap (λ rows. row_at rows n) blocks ∙ row_at-set_other r.inodes.blocks number n None apart);
      }
    where
      set_left : (rows : List (Option Ocb)) (at n : ℕ) (block : Ocb) → row_at (slice_set rows at None) n ≡ Some block → row_at rows n ≡ Some block
      set_left rows at n block there = elim (row_at-set_cases rows at n None block there) [ inl was ↦ was | inr none ↦ absurd (cc) ]

      stays_away : (r now : Resources) (n : ℕ) → ((number : ℕ) (block : Ocb) → row_at now.inodes.blocks number ≡ Some block → row_at r.inodes.blocks number ≡ Some block) → row_at r.inodes.blocks n ≡ None → row_at now.inodes.blocks n ≡ None
      stays_away r now n left none = by (row_at now.inodes.blocks n) refl
        where
          by : (row : Option Ocb) → row_at now.inodes.blocks n ≡ row → row ≡ None
          by None is = refl
          by (Some block) is = let clash : None ≡ Some block = sym none ∙ left n block is in absurd (cc)

-- a number of a list is not missing in it
pub found_in : (P : ℕ → Type 0) (numbers : List ℕ) (number : ℕ) → AllByRecursion P numbers → 0 < count_by (λ other. other == number) numbers → P number
found_in P [] number all some = absurd (omega (arith, some))
found_in P (first ∷ numbers) number all some = elim (cases_eq first number) [
  | inl same ↦ subst P same all.0
  | inr apart ↦
      let parts = count-cons (λ other. other == number) first numbers in
      let none : one (first == number) ≡ 0 = ap one (ne_eqb first number apart) in
      found_in P numbers number all.1 (omega (arith, parts, none, some))
]
