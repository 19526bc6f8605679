-- What each function of the managers comes to: it fails with an error that its message's list names, and those who wait, or are answered, may be told what they are.
use Rattle.std.proofs.Common.{◌≡◌, inl, inr, ℕ, ◌==◌, List, [], ◌∷◌, length, refl, sym, subst}
use Rattle.std.specs.Prelude.{ℤ, ◌&&◌, ◌||◌, Option, Some, None, Result, Ok, Err, is_some, not, position, slice_set}
use Rattle.std.specs.FinMap.{get, remove}
use Rattle.std.proofs.lemmas.Bool.{cond_both}
use Rattle.std.proofs.lemmas.Option.{same_Some}
use Rattle.qx_base.specs.declared.errno.Errno.{Errno}
use Rattle.qx_base.specs.declared.errno.Errno.TheVariants.{EACCES, EAGAIN, EBADF, EBUSY, EEXIST, EFBIG, EINTR, EINVAL, EISDIR, EMFILE, ENFILE, ENOENT, ENOSPC, ENOTDIR, ENOTEMPTY, EPERM, EPIPE, ESPIPE}
use Rattle.qx_devices.specs.declared.Device.{Device}
use Rattle.qx_types.specs.declared.fields.NotifyAction.{NotifyAction}
use Rattle.qx_types.specs.declared.fields.NotifyAction.TheVariants.{Poll, PollArm, TranArm}
use Rattle.qx_types.specs.declared.fields.Whence.{Whence}
use Rattle.qx_types.specs.declared.names.Manager.{Manager}
use Rattle.qx_types.specs.declared.outcome.Outcome.TheVariants.{WrongState}
use Rattle.qx_types.specs.declared.flags.OFlags.{OFlags}
use Rattle.qx_types.specs.declared.flags.TheConstants.OFlags.{CREAT, TRUNC}
use Rattle.qx_types.specs.declared.names.Manager.TheVariants as managers
use Rattle.qx_wire.specs.declared.message.Message.{Message}
use Rattle.qx_wire.specs.declared.message.Message.TheVariants as msg
use Rattle.qx_machine.specs.declared.rows.Attribute.{Attribute}
use Rattle.qx_machine.specs.declared.rows.Client.{Client}
use Rattle.qx_machine.specs.declared.rows.Conditions.{Conditions}
use Rattle.qx_machine.specs.declared.rows.Context.{Context}
use Rattle.qx_machine.specs.declared.rows.Event.{Event}
use Rattle.qx_machine.specs.declared.rows.Effect.{Effect}
use Rattle.qx_machine.specs.declared.rows.Kind.{Kind}
use Rattle.qx_machine.specs.declared.rows.Kind.TheVariants as kind
use Rattle.qx_machine.specs.declared.rows.NewDup.{NewDup}
use Rattle.qx_machine.specs.declared.rows.NewOpen.{NewOpen}
use Rattle.qx_machine.specs.declared.rows.Ocb.{Ocb}
use Rattle.qx_machine.specs.declared.rows.Opened.{Opened}
use Rattle.qx_machine.specs.declared.rows.PulseWish.{PulseWish}
use Rattle.qx_machine.specs.declared.rows.WaitingCall.{WaitingCall}
use Rattle.qx_machine.specs.declared.rows.Wish.{Wish}
use Rattle.qx_machine.specs.Defaults.{MadeInode, chmod_block, cleared, close_dup, close_last, close_ocb, dup_open, free_block, is_own, list_block, made_at, make_directory, open_spot, open_existing, open_missing, open_path, opened, own_block, pipe_in, rename_path, rename_to, stat_block, stat_path, unlink_path, unnamed, with_both_changed, without_block, without_name, without_unused, writable}
use Rattle.qx_machine.specs.Events.{Events, notified}
use Rattle.qx_machine.specs.Functions.{Deed, function_deed, message_deed, is_side, new_coid, new_dup, new_open, reply_alone, side_root}
use Rattle.qx_machine.specs.Inodes.{Inodes, block_number, blocks_of_client, has, inode_number, is_shared, new_attribute, new_inode, open_block, reads, with_attribute, writes}
use Rattle.qx_isolation.specs.Judgements.{◌>>=◌, found, need}
use Rattle.qx_machine.specs.Managers.{close_all, close_client, manager_deed, or_unreplied, own_kind, pipe_connect, pipe_io, ram_connect, ram_io}
use Rattle.qx_machine.specs.Names.{Key, Names, Spot, inode_at, is_below, is_directory, is_empty, is_same_key, names_in, root_key, search as searched, spot, start, under, walk}
use Rattle.qx_machine.specs.Notification.{conditions_at, event_of, notify_block}
use Rattle.qx_machine.specs.PipeManager.{cancel_call, deed_of_call, deed_of_pipe, read_pipe, released, seek_pipe, write_pipe}
use Rattle.qx_machine.specs.Pipes.{PipeAfter, Pipe, pipe_of}
use Rattle.qx_machine.specs.RamManager.{emptied, read_file, seek_file, write_file, written_at}
use Rattle.qx_machine.specs.Resources.{Resources, with_empty, without_content}
use Rattle.qx_isolation.specs.Rows.{row_at}
use Rattle.qx_machine.specs.Waiting.{Pipes, holds, is_call, is_gone, offered, waiting_call, wanted}
use Rattle.qx_machine.proofs.Waiters.{Quiet}
use Rattle.qx_isolation.proofs.Places.{row_at-set_cases}
use Rattle.qx_machine.proofs.AtOnce.{call-by}
use Rattle.qx_machine.proofs.Gives.{found-row}
use Rattle.qx_invariants.specs.Errors.{IsAmong, IsOneOf, device, over, pipe, ram, served, walked}
use Rattle.qx_invariants.proofs.Answering.{AreTold, InAfter, IsLeft, IsTold, MayRead, MayWrite, all_append, cancel_told, left_all, read_told_so, release_told, write_told_so}
use Rattle.qx_invariants.proofs.Judged.{among_first, Anything, Comes, comes_done, comes_error, comes_found, comes_if, comes_need, comes_on}
use Rattle.qx_invariants.proofs.Rows.{content_cases, empty_cases, unused_cases}

-- a judgement whose first part gives what has a property
comes_by : {A B E : Type 0} (Q : A → Type 0) (R : B → Type 0) (N : E → Type 0) (first : Result A E) (next : A → Result B E) → Comes Q N first → ((value : A) → Q value → Comes R N (next value)) → Comes R N (first >>= next)
comes_by Q R N (Ok value) next h each = each value h.gives
comes_by Q R N (Err error) next h each = record { gives = tt; fails = h.fails }

-- ---- paths

module _ (N : Errno → Type 0) where
  block_comes : N ENFILE → (inodes : Inodes) → Comes Anything N (block_number inodes)
  block_comes full inodes = search (comes_if, comes_done, comes_error, full)

  number_comes : N ENOSPC → (inodes : Inodes) → Comes Anything N (inode_number inodes)
  number_comes full inodes = search (comes_if, comes_done, comes_error, full)

  writable_comes : N ENOENT → N EACCES → (inodes : Inodes) (user directory : ℕ) → Comes Anything N (writable inodes user directory)
  writable_comes none denied inodes user directory = search (comes_on, comes_found, comes_need, comes_done, none, denied)

  module _ (none : N ENOENT) (file : N ENOTDIR) (denied : N EACCES) where
    searched_comes : (inodes : Inodes) (user inode : ℕ) → Comes Anything N (searched inodes user inode)
    searched_comes inodes user inode = search (comes_on, comes_found, comes_need, none, file, denied)

    walk_comes : (inodes : Inodes) (names : Names) (user directory : ℕ) (key : Key) (name : List ℕ) (rest : List (List ℕ)) → Comes Anything N (walk inodes names user directory key name rest)
    walk_comes inodes names user directory key name [] = comes_on _ N (searched inodes user directory) _ (searched_comes inodes user directory) (λ is was. comes_done _ N _ tt)
    walk_comes inodes names user directory key name (further ∷ rest) =
        comes_on _ N (searched inodes user directory) _ (searched_comes inodes user directory) (λ is was.
        comes_on _ N (found (get names (under key name)) ENOENT) _ (comes_found N _ ENOENT none) (λ next there. walk_comes inodes names user next (under key name) further rest))

    spot_comes : (inodes : Inodes) (names : Names) (user root : ℕ) (rest : List (List ℕ)) (at_root : Errno) → N at_root → Comes Anything N (spot inodes names user root rest at_root)
    spot_comes inodes names user root [] at_root its = comes_error _ N _ its
    spot_comes inodes names user root (name ∷ rest) at_root its =
        comes_on _ N (start names root) _ (comes_found N _ ENOENT none) (λ first is. walk_comes inodes names user first (root_key root) name rest)

    inode_at_comes : (inodes : Inodes) (names : Names) (user root : ℕ) (rest : List (List ℕ)) → Comes Anything N (inode_at inodes names user root rest)
    inode_at_comes inodes names user root [] = comes_done _ N _ tt
    inode_at_comes inodes names user root (name ∷ rest) =
        comes_on _ N (start names root) _ (comes_found N _ ENOENT none) (λ first is.
        comes_on _ N (walk inodes names user first (root_key root) name rest) _ (walk_comes inodes names user first (root_key root) name rest) (λ at is_at. comes_found N _ ENOENT none))

-- ---- functions that reply

module _ (K : Pipes → Type 0) (N : Errno → Type 0) where
  reply_quiet : (status : ℕ) (bytes : List ℕ) (effect : Effect) (state : Resources) → K state.pipes → Comes (Quiet K) N (Ok (reply_alone status bytes effect state))
  reply_quiet status bytes effect state h = comes_done (Quiet K) N (reply_alone status bytes effect state) (record { replied = refl; pipes = h; answers = refl })

  emptied_keeps : (flags : OFlags) (inode moment : ℕ) (r : Resources) → K r.pipes → K (emptied flags inode moment r).pipes
  emptied_keeps flags inode moment r h = cond_both (has flags TRUNC && writes flags && is_some (row_at r.files inode)) _ r (λ (s : Resources). K s.pipes) (λ is. h) (λ is_not. h)

  opened_comes : N ENFILE → (over : NewOpen) (flags : OFlags) (inode : ℕ) (r : Resources) → K r.pipes → Comes (Quiet K) N (opened over flags inode r)
  opened_comes full over flags inode r h =
      comes_on _ N (open_block r.inodes inode flags over.client) _ (comes_on _ N (block_number r.inodes) _ (block_comes N full r.inodes) (λ number is. comes_done _ N _ tt)) (λ block is. reply_quiet _ _ _ _ h)

  dup_comes : N EBADF → N EMFILE → (r : Resources) (dup : NewDup) → K r.pipes → Comes (Quiet K) N (dup_open r dup)
  dup_comes gone many r dup h = search (comes_on, comes_found, comes_need, comes_done, gone, many, h)

  existing_comes : N ENOENT → N EEXIST → N EISDIR → N EACCES → N ENFILE → (r : Resources) (over : NewOpen) (inode : ℕ) (wish : Wish) → K r.pipes → Comes (Quiet K) N (open_existing r over inode wish)
  existing_comes none there directory denied full r over inode wish h = search (comes_on, comes_found, comes_need, opened_comes, emptied_keeps, none, there, directory, denied, full, h) depth 12

  made_comes : N ENOSPC → (r : Resources) (at : Spot) (parent : Attribute) (which : Kind) (mode moment : ℕ) → ((inode : ℕ) (s : Resources) → K s.pipes → K (with_empty which inode s).pipes) → K r.pipes
      → Comes (λ (made : MadeInode). K made.after.pipes) N (made_at r at parent which mode moment)
  made_comes full r at parent which mode moment empty h =
      comes_on _ N (new_inode r.inodes (new_attribute which mode r.user moment)) _ (comes_on _ N (inode_number r.inodes) _ (number_comes N full r.inodes) (λ number is. comes_done _ N _ tt)) (λ made is. comes_done _ N _ (empty made.number _ h))

  missing_comes : N ENOENT → N EACCES → N ENFILE → N ENOSPC → (own : Kind) (r : Resources) (over : NewOpen) (at : Spot) (wish : Wish) → ((inode : ℕ) (s : Resources) → K s.pipes → K (with_empty own inode s).pipes) → K r.pipes → Comes (Quiet K) N (open_missing own r over at wish)
  missing_comes none denied full no_room own r over at wish empty h =
      comes_on _ N (need (has wish.flags CREAT) ENOENT) _ (comes_need N _ _ none) (λ making is_making.
      comes_on _ N (writable r.inodes r.user at.parent) _ (writable_comes N none denied r.inodes r.user at.parent) (λ parent is_parent.
      comes_on _ N (block_number r.inodes) _ (block_comes N full r.inodes) (λ free is_free.
      comes_by (λ (made : MadeInode). K made.after.pipes) _ N (made_at r at parent own wish.mode wish.moment) _ (made_comes no_room r at parent own wish.mode wish.moment empty h) (λ made kept.
      opened_comes full over wish.flags made.inode made.after kept))))

  module _ (none : N ENOENT) (file : N ENOTDIR) (denied : N EACCES) where
    open_comes : N EEXIST → N EISDIR → N ENFILE → N ENOSPC → (own : Kind) (r : Resources) (over : NewOpen) (rest : List (List ℕ)) (wish : Wish) → ((inode : ℕ) (s : Resources) → K s.pipes → K (with_empty own inode s).pipes) → K r.pipes → Comes (Quiet K) N (open_path own r over rest wish)
    open_comes there directory full no_room own r over [] wish empty h = existing_comes none there directory denied full r over over.root wish h
    open_comes there directory full no_room own r over (name ∷ rest) wish empty h =
        comes_on _ N (spot r.inodes r.names r.user over.root (name ∷ rest) ENOENT) _ (spot_comes N none file denied r.inodes r.names r.user over.root (name ∷ rest) ENOENT none) (λ at is. by at at.inode)
      where
        by : (at : Spot) (inode : Option ℕ) → Comes (Quiet K) N (open_spot own r over at inode wish)
        by at (Some inode) = existing_comes none there directory denied full r over inode wish h
        by at None = missing_comes none denied full no_room own r over at wish empty h

    stat_comes : (r : Resources) (root : ℕ) (rest : List (List ℕ)) (moment : ℕ) → K r.pipes → Comes (Quiet K) N (stat_path r root rest moment)
    stat_comes r root rest moment h =
        comes_on _ N (inode_at r.inodes r.names r.user root rest) _ (inode_at_comes N none file denied r.inodes r.names r.user root rest) (λ inode is.
        comes_on _ N (found (row_at r.inodes.attributes inode) ENOENT) _ (comes_found N _ ENOENT none) (λ attribute there. reply_quiet _ _ _ _ h))

    directory_comes : N EEXIST → N ENOSPC → (r : Resources) (root mode : ℕ) (rest : List (List ℕ)) (moment : ℕ) → K r.pipes → Comes (Quiet K) N (make_directory r root mode rest moment)
    directory_comes there full r root mode rest moment h =
        comes_on _ N (spot r.inodes r.names r.user root rest EEXIST) _ (spot_comes N none file denied r.inodes r.names r.user root rest EEXIST there) (λ at is.
        comes_on _ N (need (not (is_some at.inode)) EEXIST) _ (comes_need N _ EEXIST there) (λ missing is_missing.
        comes_on _ N (writable r.inodes r.user at.parent) _ (writable_comes N none denied r.inodes r.user at.parent) (λ parent is_parent.
        comes_by (λ (made : MadeInode). K made.after.pipes) _ N (made_at r at parent kind.Directory mode moment) _ (made_comes full r at parent kind.Directory mode moment (λ inode s k. k) h) (λ made kept. reply_quiet _ _ _ _ kept))))

    -- ---- what goes

    module _ (own : Kind) (content : (inode : ℕ) (s : Resources) → K s.pipes → K (without_content own inode s).pipes) where
      unused_keeps : (inode : ℕ) (r : Resources) → K r.pipes → K (without_unused own inode r).pipes
      unused_keeps inode r h = unused_cases (λ s. K s.pipes) own inode r (λ is. content inode _ h) (λ is_not. h)

      unlink_comes : N EBUSY → N ENOTEMPTY → (r : Resources) (root : ℕ) (rest : List (List ℕ)) (moment : ℕ) → K r.pipes → Comes (Quiet K) N (unlink_path own r root rest moment)
      unlink_comes busy full r root rest moment h =
          comes_on _ N (spot r.inodes r.names r.user root rest EBUSY) _ (spot_comes N none file denied r.inodes r.names r.user root rest EBUSY busy) (λ at is.
          comes_on _ N (found at.inode ENOENT) _ (comes_found N _ ENOENT none) (λ inode there.
          comes_on _ N (writable r.inodes r.user at.parent) _ (writable_comes N none denied r.inodes r.user at.parent) (λ parent is_parent.
          comes_on _ N (need (is_empty (names_in r.names inode)) ENOTEMPTY) _ (comes_need N _ ENOTEMPTY full) (λ empty is_empty.
          comes_on _ N (found (row_at r.inodes.attributes inode) ENOENT) _ (comes_found N _ ENOENT none) (λ attribute has.
          comes_on _ N (need (is_own own attribute.kind) ENOENT) _ (comes_need N _ ENOENT none) (λ mine is_mine. reply_quiet _ _ _ _ (unused_keeps inode (without_name at parent inode attribute moment r) h)))))))

      cleared_comes : N EISDIR → N ENOTEMPTY → (attribute : Attribute) (to : Spot) (there : Option ℕ) (moment : ℕ) (r : Resources) → K r.pipes → Comes (λ (s : Resources). K s.pipes) N (cleared own attribute to there moment r)
      cleared_comes directory full attribute to None moment r h = comes_done _ N _ h
      cleared_comes directory full attribute to (Some there) moment r h =
          comes_on _ N (found (row_at r.inodes.attributes there) ENOENT) _ (comes_found N _ ENOENT none) (λ target is.
          comes_on _ N (need (is_directory target.kind || not (is_directory attribute.kind)) ENOTDIR) _ (comes_need N _ ENOTDIR file) (λ onto is_onto.
          comes_on _ N (need (is_directory attribute.kind || not (is_directory target.kind)) EISDIR) _ (comes_need N _ EISDIR directory) (λ no_directory is_none.
          comes_on _ N (need (is_empty (names_in r.names there)) ENOTEMPTY) _ (comes_need N _ ENOTEMPTY full) (λ empty is_empty.
          comes_on _ N (need (is_own own target.kind) ENOENT) _ (comes_need N _ ENOENT none) (λ mine is_mine.
          comes_done _ N _ (unused_keeps there (record r { inodes = with_attribute r.inodes there (unnamed moment target); names = remove r.names to.key }) h))))))

      rename_to_comes : N EINVAL → N EISDIR → N ENOTEMPTY → (r : Resources) (from : Spot) (inode : ℕ) (parent : Attribute) (to : Spot) (other : Attribute) (moment : ℕ) → K r.pipes → Comes (Quiet K) N (rename_to own r from inode parent to other moment)
      rename_to_comes below directory full r from inode parent to other moment h =
          comes_on _ N (found (row_at r.inodes.attributes inode) ENOENT) _ (comes_found N _ ENOENT none) (λ attribute has.
          comes_on _ N (need (not (is_below from.key to.key.0 to.key.1)) EINVAL) _ (comes_need N _ EINVAL below) (λ outside is_outside.
          comes_by (λ (s : Resources). K s.pipes) _ N (cleared own attribute to to.inode moment (with_both_changed from parent to other moment r)) _ (cleared_comes directory full attribute to to.inode moment _ h) (λ free kept. reply_quiet _ _ _ _ kept)))

      rename_comes : N EINVAL → N EBUSY → N EISDIR → N ENOTEMPTY → (r : Resources) (root : ℕ) (old new : List (List ℕ)) (moment : ℕ) → K r.pipes → Comes (Quiet K) N (rename_path own r root old new moment)
      rename_comes below busy directory full r root old new moment h =
          comes_on _ N (need (not (length old == 0) && not (length new == 0)) EBUSY) _ (comes_need N _ EBUSY busy) (λ named is_named.
          comes_on _ N (spot r.inodes r.names r.user root old EBUSY) _ (spot_comes N none file denied r.inodes r.names r.user root old EBUSY busy) (λ from is_from.
          comes_on _ N (found from.inode ENOENT) _ (comes_found N _ ENOENT none) (λ inode there.
          comes_on _ N (spot r.inodes r.names r.user root new EBUSY) _ (spot_comes N none file denied r.inodes r.names r.user root new EBUSY busy) (λ to is_to.
          comes_on _ N (writable r.inodes r.user from.parent) _ (writable_comes N none denied r.inodes r.user from.parent) (λ parent is_parent.
          comes_on _ N (writable r.inodes r.user to.parent) _ (writable_comes N none denied r.inodes r.user to.parent) (λ other is_other.
          comes_if _ N (is_same_key from.key to.key) _ _ (reply_quiet _ _ _ _ h) (rename_to_comes below directory full r from inode parent to other moment h)))))))

  -- ---- what is open

  module _ (gone : N EBADF) where
    fstat_comes : (r : Resources) (over : Opened) → K r.pipes → Comes (Quiet K) N (stat_block r over)
    fstat_comes r over h = search (comes_on, comes_found, comes_done, gone, h)

    list_comes : N ENOTDIR → (r : Resources) (over : Opened) (after : List ℕ) → K r.pipes → Comes (Quiet K) N (list_block r over after)
    list_comes file r over after h = search (comes_on, comes_found, comes_need, comes_done, gone, file, h)

    chmod_comes : N EPERM → (r : Resources) (over : Opened) (mode : ℕ) → K r.pipes → Comes (Quiet K) N (chmod_block r over mode)
    chmod_comes top r over mode h = search (comes_on, comes_found, comes_need, comes_done, gone, top, h)

    arm_comes : N EAGAIN → (most : ℕ) (action : NotifyAction) (event : Event) (holding : Conditions) (events : Events) → Comes Anything N (notified most action event holding events)
    arm_comes full most Poll event holding events = comes_done _ N _ tt
    arm_comes full most TranArm event holding events = search (comes_on, comes_need, comes_done, full)
    arm_comes full most PollArm event holding events = search (comes_if, comes_on, comes_need, comes_done, full)

    notify_comes : N EAGAIN → (r : Resources) (over : Opened) (action : NotifyAction) (wish : PulseWish) → K r.pipes → Comes (Quiet K) N (notify_block r over action wish)
    notify_comes full r over action wish h =
        comes_on _ N (found (row_at r.inodes.blocks over.number) EBADF) _ (comes_found N _ EBADF gone) (λ block opened.
        comes_on _ N (notified r.limits.events action (event_of over wish) (conditions_at r (Some block)) r.events) _ (arm_comes full r.limits.events action (event_of over wish) (conditions_at r (Some block)) r.events) (λ given is. reply_quiet _ _ _ _ h))

    read_file_comes : N EISDIR → (r : Resources) (over : Opened) (count : ℕ) → K r.pipes → Comes (Quiet K) N (read_file r over count)
    read_file_comes directory r over count h = search (comes_on, comes_found, comes_need, comes_done, gone, directory, h)

    seek_file_comes : N EINVAL → (r : Resources) (over : Opened) (whence : Whence) (far : ℤ) → K r.pipes → Comes (Quiet K) N (seek_file r over whence far)
    seek_file_comes bad r over whence far h = search (comes_on, comes_found, comes_need, comes_done, gone, bad, h) depth 9

    seek_pipe_comes : N EINVAL → N ESPIPE → (r : Resources) (over : Opened) (whence : Whence) (far : ℤ) → Comes (Quiet K) N (seek_pipe r over whence far)
    seek_pipe_comes bad none r over whence far = search (comes_on, comes_found, comes_need, comes_error, gone, bad, none)

    written_comes : N EFBIG → N ENOSPC → (r : Resources) (number inode : ℕ) (bytes : List ℕ) (offset : ℕ) (new : List ℕ) (moment : ℕ) → K r.pipes → Comes (Quiet K) N (written_at r number inode bytes offset new moment)
    written_comes long full r number inode bytes offset new moment h = search (comes_on, comes_need, comes_done, long, full, h)

    write_file_comes : N EFBIG → N ENOSPC → (r : Resources) (over : Opened) (new : List ℕ) → K r.pipes → Comes (Quiet K) N (write_file r over new)
    write_file_comes long full r over new h = search (comes_on, comes_found, comes_need, comes_if, comes_done, written_comes, gone, long, full, h) depth 9

-- ---- the pipes of a user

comes_more : {A E : Type 0} (Q R : A → Type 0) (N : E → Type 0) (given : Result A E) → Comes Q N given → ((value : A) → Q value → R value) → Comes R N given
comes_more Q R N (Ok value) h more = record { gives = more value h.gives; fails = tt }
comes_more Q R N (Err error) h more = record { gives = tt; fails = h.fails }

comes_less : {A E : Type 0} (Q : A → Type 0) (M N : E → Type 0) (given : Result A E) → Comes Q M given → ((error : E) → M error → N error) → Comes Q N given
comes_less Q M N (Ok value) h more = record { gives = h.gives; fails = tt }
comes_less Q M N (Err error) h more = record { gives = tt; fails = more error h.fails }

module _ (T : WaitingCall → Errno → Type 0) where
  -- who waits in any of them may be told what they are, unless their process has ended
  pub record InPipes (pipes : Pipes) : Type 0 where
    pub each : (inode : ℕ) (pipe : Pipe WaitingCall) → row_at pipes inode ≡ Some pipe → IsLeft T pipe.device is_gone pipe

  -- and so is whoever is answered by a deed
  pub record InDeed (deed : Deed Resources) : Type 0 where
    pub pipes : InPipes deed.state.pipes
    pub answers : AreTold T deed.answers

  set_keeps : (pipes : Pipes) (inode : ℕ) (row : Option (Pipe WaitingCall)) → InPipes pipes → ((pipe : Pipe WaitingCall) → row ≡ Some pipe → IsLeft T pipe.device is_gone pipe) → InPipes (slice_set pipes inode row)
  set_keeps pipes inode row h new = record {
    each = λ other pipe here. elim (row_at-set_cases pipes inode other row pipe here) [ inl before ↦ h.each other pipe before | inr put ↦ new pipe put ];
  }

  nobody_in : (device : Option Device) (pipe : Pipe WaitingCall) → Some (pipe_of device [] [] []) ≡ Some pipe → IsLeft T pipe.device is_gone pipe
  nobody_in device pipe made = subst (λ (p : Pipe WaitingCall). IsLeft T p.device is_gone p) (same_Some _ _ made) (record { device_is = refl; readers = tt; writers = tt })

  empty_keeps : (own : Kind) (inode : ℕ) (s : Resources) → InPipes s.pipes → InPipes (with_empty own inode s).pipes
  empty_keeps own inode s h = empty_cases (λ r. InPipes r.pipes) own inode s (λ file. h) (λ device. set_keeps s.pipes inode _ h (nobody_in device)) (λ directory. h)

  content_keeps : (own : Kind) (inode : ℕ) (s : Resources) → InPipes s.pipes → InPipes (without_content own inode s).pipes
  content_keeps own inode s h = content_cases (λ r. InPipes r.pipes) own inode s (λ file. h) (λ calls. set_keeps s.pipes inode None h (λ pipe none. absurd (cc))) (λ directory. h)

  after_keeps : (r : Resources) (inode moment : ℕ) (device : Option Device) (after : PipeAfter WaitingCall) → InPipes r.pipes → InAfter T device after → InDeed (deed_of_pipe r inode moment after)
  after_keeps r inode moment device after h k = record {
    pipes = set_keeps r.pipes inode (Some after.pipe) h (λ pipe put. subst (λ (p : Pipe WaitingCall). IsLeft T p.device is_gone p) (same_Some _ _ put)
        (subst (λ d. IsLeft T d is_gone after.pipe) (sym k.pipe.device_is) (left_all T device is_gone after.pipe k.pipe)));
    answers = k.answers;
  }

  pub cancel_keeps : (r : Resources) (process thread number moment : ℕ) → InPipes r.pipes → Comes InDeed Anything (cancel_call r process thread number moment)
  cancel_keeps r process thread number moment h =
      comes_on _ _ (found (position (holds (is_call process thread number)) r.pipes) WrongState) _ (comes_found _ _ WrongState tt) (λ inode at.
      comes_on _ _ (found (row_at r.pipes inode) WrongState) _ (comes_found _ _ WrongState tt) (λ pipe here.
      comes_done _ _ _ (after_keeps r inode moment pipe.device _ h (cancel_told T pipe.device is_gone wanted offered _ pipe (h.each inode pipe (found-row _ _ pipe here))))))

  quiet_in : (deed : Deed Resources) → Quiet InPipes deed → InDeed deed
  quiet_in deed quiet = record { pipes = quiet.pipes; answers = subst (AreTold T) (sym quiet.answers) tt }

  quiet_comes : (N : Errno → Type 0) (given : Result (Deed Resources) Errno) → Comes (Quiet InPipes) N given → Comes InDeed N given
  quiet_comes N given h = comes_more (Quiet InPipes) InDeed N given h quiet_in

  -- a READ or a WRITE that is replied to at once leaves nobody to be answered
  call_keeps : (r : Resources) (inode moment : ℕ) (pipe : Pipe WaitingCall) (after : PipeAfter WaitingCall) → InPipes r.pipes → InAfter T pipe.device after → InDeed (deed_of_call r inode moment pipe after)
  call_keeps r inode moment pipe after h k =
      let later = after_keeps r inode moment pipe.device after h k in
      call-by InDeed r inode moment pipe after later (λ nobody status bytes is. record { pipes = later.pipes; answers = tt })

  module _ (N : Errno → Type 0) (gone : N EBADF) (r : Resources) (h : InPipes r.pipes) where
    read_pipe_comes : N EISDIR → (over : Opened) (count : ℕ) → ((block : Ocb) (pipe : Pipe WaitingCall) → row_at r.inodes.blocks over.number ≡ Some block → row_at r.pipes block.inode ≡ Some pipe → MayRead T pipe.device (waiting_call over count [])) → Comes InDeed N (read_pipe r over count)
    read_pipe_comes directory over count may =
        comes_on _ N (found (row_at r.inodes.blocks over.number) EBADF) _ (comes_found N _ EBADF gone) (λ block there.
        comes_on _ N (need (reads block.flags) EBADF) _ (comes_need N _ EBADF gone) (λ reading is_reading.
        comes_on _ N (found (row_at r.pipes block.inode) EISDIR) _ (comes_found N _ EISDIR directory) (λ pipe here.
        comes_done _ N _ (call_keeps r block.inode over.moment pipe _ h
        (read_told_so T pipe.device is_gone wanted offered _ _ pipe (may block pipe (found-row _ _ block there) (found-row _ _ pipe here)) (h.each block.inode pipe (found-row _ _ pipe here)))))))

    write_pipe_comes : (over : Opened) (bytes : List ℕ) → ((block : Ocb) (pipe : Pipe WaitingCall) → row_at r.inodes.blocks over.number ≡ Some block → row_at r.pipes block.inode ≡ Some pipe → MayWrite T pipe.device (waiting_call over 0 bytes)) → Comes InDeed N (write_pipe r over bytes)
    write_pipe_comes over bytes may =
        comes_on _ N (found (row_at r.inodes.blocks over.number) EBADF) _ (comes_found N _ EBADF gone) (λ block there.
        comes_on _ N (need (writes block.flags) EBADF) _ (comes_need N _ EBADF gone) (λ writing is_writing.
        comes_on _ N (found (row_at r.pipes block.inode) EBADF) _ (comes_found N _ EBADF gone) (λ pipe here.
        comes_done _ N _ (call_keeps r block.inode over.moment pipe _ h
        (write_told_so T pipe.device is_gone wanted offered _ _ pipe (may block pipe (found-row _ _ block there) (found-row _ _ pipe here)) (h.each block.inode pipe (found-row _ _ pipe here)))))))

    -- ---- a block goes

    released_keeps : (s : Resources) → InPipes s.pipes → (number inode moment : ℕ) (row : Option (Pipe WaitingCall)) → ((pipe : Pipe WaitingCall) → row ≡ Some pipe → IsLeft T pipe.device is_gone pipe) → InDeed (released s number inode moment row)
    released_keeps s k number inode moment None here = record { pipes = k; answers = tt }
    released_keeps s k number inode moment (Some pipe) here = after_keeps s inode moment pipe.device _ k (release_told T pipe.device is_gone wanted offered _ _ pipe (here pipe refl))

    pipe_here : (own : Kind) (inode : ℕ) (pipe : Pipe WaitingCall) → pipe_in own r inode ≡ Some pipe → IsLeft T pipe.device is_gone pipe
    pipe_here kind.Pipe inode pipe is = h.each inode pipe is
    pipe_here (kind.Device device) inode pipe is = h.each inode pipe is
    pipe_here kind.File inode pipe is = absurd (cc)
    pipe_here kind.Directory inode pipe is = absurd (cc)

    own_comes : (number : ℕ) (own : Kind) → Comes Anything N (own_block r.inodes number own)
    own_comes number own = search (comes_on, comes_found, comes_need, comes_done, gone)

    freed_comes : (own : Kind) (number moment : ℕ) → Comes InDeed N (free_block own r number moment)
    freed_comes own number moment =
        comes_on _ N (own_block r.inodes number own) _ (own_comes number own) (λ block is.
        let deed = released (without_block number r) number block.inode moment (pipe_in own r block.inode) in
        let left = released_keeps (without_block number r) h number block.inode moment (pipe_in own r block.inode) (pipe_here own block.inode) in
        comes_done _ N _ (record { pipes = unused_cases (λ s. InPipes s.pipes) own block.inode deed.state (λ unused. content_keeps own block.inode _ left.pipes) (λ used. left.pipes); answers = left.answers }))

    pub ocb_comes : (own : Kind) (number moment : ℕ) → Comes InDeed N (close_ocb own r number moment)
    ocb_comes own number moment =
        comes_by InDeed _ N (free_block own r number moment) _ (freed_comes own number moment) (λ deed left. comes_done _ N _ (record { pipes = left.pipes; answers = left.answers }))

    last_comes : (own : Kind) (over : Opened) → Comes InDeed N (close_last own r over)
    last_comes own over =
        comes_by InDeed _ N (close_ocb own r over.number over.moment) _ (ocb_comes own over.number over.moment) (λ deed left. comes_done _ N _ (record { pipes = left.pipes; answers = left.answers }))

    close_comes : (own : Kind) (over : Opened) → Comes InDeed N (close_dup own r over)
    close_comes own over = comes_if _ N (is_shared (row_at r.inodes.blocks over.number)) _ _ (comes_done _ N _ (record { pipes = h; answers = tt })) (last_comes own over)

  or_keeps : (r : Resources) (given : Result (Deed Resources) Errno) → InPipes r.pipes → Comes InDeed Anything given → InDeed (or_unreplied r given)
  or_keeps r (Ok deed) h comes = comes.gives
  or_keeps r (Err error) h comes = record { pipes = h; answers = tt }

  all_keeps : (manager : Manager) (moment : ℕ) (numbers : List ℕ) (r : Resources) → InPipes r.pipes → InDeed (close_all manager moment numbers r)
  all_keeps manager moment [] r h = record { pipes = h; answers = tt }
  all_keeps manager moment (number ∷ numbers) r h =
      let deed = or_unreplied r (close_ocb (own_kind manager) r number moment) in
      let first = or_keeps r (close_ocb (own_kind manager) r number moment) h (ocb_comes Anything tt r h (own_kind manager) number moment) in
      let rest = all_keeps manager moment numbers deed.state first.pipes in
      record { pipes = rest.pipes; answers = all_append (IsTold T) deed.answers (close_all manager moment numbers deed.state).answers first.answers rest.answers }

  -- who waits once a client is gone, and who is answered by that
  pub client_keeps : (r : Resources) (client : Client) (moment : ℕ) → InPipes r.pipes → InDeed (close_client r client moment)
  client_keeps r client moment h = all_keeps client.server.manager moment (blocks_of_client r.inodes client) r h

  -- ---- the managers

  module _ (r : Resources) (h : InPipes r.pipes) (context : Context) (is_open : Comes Anything (λ error. IsAmong error (EINVAL ∷ EBADF ∷ [])) context.opened) where
    -- over what is open, where the function has an error for each of a list
    over_comes : (errors : List Errno) (next : Opened → Result (Deed Resources) Errno) → ((opened : Opened) → context.opened ≡ Ok opened → Comes InDeed (λ error. IsAmong error (EINVAL ∷ EBADF ∷ errors)) (next opened))
        → Comes InDeed (λ error. IsAmong error (EINVAL ∷ EBADF ∷ errors)) (context.opened >>= next)
    over_comes errors next each = comes_on _ _ context.opened next (comes_less _ _ _ context.opened is_open (λ error among. among_first error (EINVAL ∷ EBADF ∷ []) errors among)) each

    quiet_over : (errors : List Errno) (next : Opened → Result (Deed Resources) Errno) → ((opened : Opened) → Comes (Quiet InPipes) (λ error. IsAmong error (EINVAL ∷ EBADF ∷ errors)) (next opened))
        → Comes InDeed (λ error. IsAmong error (EINVAL ∷ EBADF ∷ errors)) (context.opened >>= next)
    quiet_over errors next each = over_comes errors next (λ opened is. quiet_comes _ _ (each opened))

    side_comes : (N : Errno → Type 0) → N EINVAL → (next : ℕ → Result (Deed Resources) Errno) → ((root : ℕ) → Comes (Quiet InPipes) N (next root)) → Comes InDeed N (side_root context.target >>= next)
    side_comes N bad next each = quiet_comes N _ (comes_on _ N (side_root context.target) next (comes_on _ N (need (is_side context.target.over) EINVAL) _ (comes_need N _ EINVAL bad) (λ aside is. comes_found N _ EINVAL bad)) (λ root is. each root))

    dup_over : Comes InDeed (IsOneOf (over (EMFILE ∷ []))) (function_deed (Some dup_open) (new_dup context) (λ f dup. f r dup))
    dup_over =
        comes_on _ _ (new_dup context) _
        (comes_on _ _ (found (new_coid context.target.over) EINVAL) _ (comes_found _ _ EINVAL (inl refl)) (λ coid is.
        comes_on _ _ context.opened _ (comes_less _ _ _ context.opened is_open (λ error among. among_first error (EINVAL ∷ EBADF ∷ []) (EMFILE ∷ []) among)) (λ old was. comes_done _ _ _ tt)))
        (λ dup is. quiet_comes _ _ (dup_comes InPipes _ (inr (inl refl)) (inr (inr (inl refl))) r dup h))

    unlink_over : (own : Kind) (rest : List (List ℕ)) → Comes InDeed (IsOneOf (walked (EBUSY ∷ ENOTEMPTY ∷ []))) (function_deed (Some (unlink_path own)) (side_root context.target) (λ f root. f r root rest context.moment))
    unlink_over own rest = side_comes _ (inl refl) _ (λ root. unlink_comes InPipes _ (inr (inr (inr (inl refl)))) (inr (inl refl)) (inr (inr (inl refl))) own (content_keeps own) (inr (inr (inr (inr (inl refl))))) (inr (inr (inr (inr (inr (inl refl)))))) r root rest context.moment h)

    fstat_over : Comes InDeed (IsOneOf (over [])) (function_deed (Some stat_block) context.opened (λ f opened. f r opened))
    fstat_over = quiet_over [] _ (λ opened. fstat_comes InPipes _ (inr (inl refl)) r opened h)

    list_over : (after : List ℕ) → Comes InDeed (IsOneOf (over (ENOTDIR ∷ []))) (function_deed (Some list_block) context.opened (λ f opened. f r opened after))
    list_over after = quiet_over (ENOTDIR ∷ []) _ (λ opened. list_comes InPipes _ (inr (inl refl)) (inr (inr (inl refl))) r opened after h)

    chmod_over : (mode : ℕ) → Comes InDeed (IsOneOf (over (EPERM ∷ []))) (function_deed (Some chmod_block) context.opened (λ f opened. f r opened mode))
    chmod_over mode = quiet_over (EPERM ∷ []) _ (λ opened. chmod_comes InPipes _ (inr (inl refl)) (inr (inr (inl refl))) r opened mode h)

    notify_over : (action : NotifyAction) (wish : PulseWish) → Comes InDeed (IsOneOf (over (EAGAIN ∷ []))) (function_deed (Some notify_block) context.opened (λ f opened. f r opened action wish))
    notify_over action wish = quiet_over (EAGAIN ∷ []) _ (λ opened. notify_comes InPipes _ (inr (inl refl)) (inr (inr (inl refl))) r opened action wish h)

    open_over : (own : Kind) (rest : List (List ℕ)) (wish : Wish) → Comes InDeed (IsOneOf (walked (EEXIST ∷ EISDIR ∷ ENFILE ∷ ENOSPC ∷ []))) (function_deed (Some (open_path own)) (new_open context) (λ f over. f r over rest wish))
    open_over own rest wish =
        comes_on _ _ (new_open context) _
        (comes_on _ _ (found (new_coid context.target.over) EINVAL) _ (comes_found _ _ EINVAL (inl refl)) (λ coid is.
        comes_on _ _ (found context.target.root EINVAL) _ (comes_found _ _ EINVAL (inl refl)) (λ root was. comes_done _ _ _ tt)))
        (λ over is. quiet_comes _ _ (open_comes InPipes _ (inr (inr (inr (inl refl)))) (inr (inl refl)) (inr (inr (inl refl))) (inr (inr (inr (inr (inl refl))))) (inr (inr (inr (inr (inr (inl refl)))))) (inr (inr (inr (inr (inr (inr (inl refl))))))) (inr (inr (inr (inr (inr (inr (inr (inl refl)))))))) own r over rest wish (empty_keeps own) h))

    ram_comes : (message : Message) → Comes InDeed (IsOneOf (ram message)) (message_deed ram_connect ram_io r context message)
    ram_comes (msg.Open flags mode rest) = open_over kind.File rest _
    ram_comes (msg.Stat rest) = side_comes _ (inl refl) _ (λ root. stat_comes InPipes _ (inr (inr (inr (inl refl)))) (inr (inl refl)) (inr (inr (inl refl))) r root rest context.moment h)
    ram_comes (msg.Unlink rest) = unlink_over kind.File rest
    ram_comes (msg.Mknod mode rest) = side_comes _ (inl refl) _ (λ root. directory_comes InPipes _ (inr (inr (inr (inl refl)))) (inr (inl refl)) (inr (inr (inl refl))) (inr (inr (inr (inr (inl refl))))) (inr (inr (inr (inr (inr (inl refl)))))) r root mode rest context.moment h)
    ram_comes (msg.Rename rests) = side_comes _ (inl refl) _ (λ root. rename_comes InPipes _ (inr (inr (inr (inl refl)))) (inr (inl refl)) (inr (inr (inl refl))) kind.File (content_keeps kind.File) (inl refl) (inr (inr (inr (inr (inl refl))))) (inr (inr (inr (inr (inr (inl refl)))))) (inr (inr (inr (inr (inr (inr (inl refl))))))) r root rests.0 rests.1 context.moment h)
    ram_comes (msg.Read count) = quiet_over (EISDIR ∷ []) _ (λ opened. read_file_comes InPipes _ (inr (inl refl)) (inr (inr (inl refl))) r opened count h)
    ram_comes (msg.Write bytes) = quiet_over (EFBIG ∷ ENOSPC ∷ []) _ (λ opened. write_file_comes InPipes _ (inr (inl refl)) (inr (inr (inl refl))) (inr (inr (inr (inl refl)))) r opened bytes h)
    ram_comes msg.Close = over_comes [] _ (λ opened is. close_comes _ (inr (inl refl)) r h kind.File opened)
    ram_comes (msg.Dup old) = dup_over
    ram_comes (msg.Lseek whence offset) = quiet_over [] _ (λ opened. seek_file_comes InPipes _ (inr (inl refl)) (inl refl) r opened whence offset h)
    ram_comes msg.Fstat = fstat_over
    ram_comes (msg.List after) = list_over after
    ram_comes (msg.Notify action conditions code value) = notify_over action _
    ram_comes (msg.Chmod mode) = chmod_over mode

    -- where calls wait, a READ and a WRITE may be told what they are; and what they are not, no other message is
    pub record MayCome (message : Message) : Type 0 where
      pub reads : (over : Opened) → context.opened ≡ Ok over → (count : ℕ) → message ≡ msg.Read count → (block : Ocb) (pipe : Pipe WaitingCall) → row_at r.inodes.blocks over.number ≡ Some block → row_at r.pipes block.inode ≡ Some pipe → MayRead T pipe.device (waiting_call over count [])
      pub writes : (over : Opened) → context.opened ≡ Ok over → (bytes : List ℕ) → message ≡ msg.Write bytes → (block : Ocb) (pipe : Pipe WaitingCall) → row_at r.inodes.blocks over.number ≡ Some block → row_at r.pipes block.inode ≡ Some pipe → MayWrite T pipe.device (waiting_call over 0 bytes)

    pipe_comes : (own : Kind) (message : Message) → MayCome message → Comes InDeed (IsOneOf (pipe message)) (message_deed (pipe_connect own) (pipe_io own) r context message)
    pipe_comes own (msg.Open flags mode rest) may = open_over own rest _
    pipe_comes own (msg.Stat rest) may = side_comes _ (inl refl) _ (λ root. stat_comes InPipes _ (inr (inr (inr (inl refl)))) (inr (inl refl)) (inr (inr (inl refl))) r root rest context.moment h)
    pipe_comes own (msg.Unlink rest) may = unlink_over own rest
    pipe_comes own (msg.Mknod mode rest) may = comes_error _ _ _ (inl refl)
    pipe_comes own (msg.Rename rests) may = comes_error _ _ _ (inl refl)
    pipe_comes own (msg.Read count) may = over_comes (EISDIR ∷ EAGAIN ∷ EINTR ∷ []) _ (λ opened is. read_pipe_comes _ (inr (inl refl)) r h (inr (inr (inl refl))) opened count (may.reads opened is count refl))
    pipe_comes own (msg.Write bytes) may = over_comes (EPIPE ∷ EAGAIN ∷ EINTR ∷ []) _ (λ opened is. write_pipe_comes _ (inr (inl refl)) r h opened bytes (may.writes opened is bytes refl))
    pipe_comes own msg.Close may = over_comes [] _ (λ opened is. close_comes _ (inr (inl refl)) r h own opened)
    pipe_comes own (msg.Dup old) may = dup_over
    pipe_comes own (msg.Lseek whence offset) may = quiet_over (ESPIPE ∷ []) _ (λ opened. seek_pipe_comes InPipes _ (inr (inl refl)) (inl refl) (inr (inr (inl refl))) r opened whence offset)
    pipe_comes own msg.Fstat may = fstat_over
    pipe_comes own (msg.List after) may = list_over after
    pipe_comes own (msg.Notify action conditions code value) may = notify_over action _
    pipe_comes own (msg.Chmod mode) may = chmod_over mode

    -- a device's messages are a pipe's, but for those that its own functions answer
    device_comes : (of_an_author : Device) (message : Message) → MayCome message → Comes InDeed (IsOneOf (device message)) (message_deed (pipe_connect (kind.Device of_an_author)) (pipe_io (kind.Device of_an_author)) r context message)
    device_comes of_an_author message may = comes_less _ _ _ _ (pipe_comes (kind.Device of_an_author) message may) (more message)
      where
        more : (message : Message) (error : Errno) → IsOneOf (pipe message) error → IsOneOf (device message) error
        more (msg.Read count) error among = tt
        more (msg.Write bytes) error among = tt
        more _ error among = among

    -- with what a message is answered by its manager
    pub manager_comes : (manager : Manager) (message : Message) → MayCome message → Comes InDeed (IsOneOf (served manager message)) (manager_deed manager r context message)
    manager_comes managers.Ram message may = ram_comes message
    manager_comes managers.Pipe message may = pipe_comes kind.Pipe message may
    manager_comes (managers.Device of_an_author) message may = device_comes of_an_author message may
