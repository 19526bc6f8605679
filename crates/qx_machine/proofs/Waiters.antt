-- Who waits in a pipe afterwards, or is answered, waited there before or made the call: a property that all of those have, these have.
use Rattle.std.proofs.Common.{◌≡◌, inl, inr, ℕ, ◌==◌, List, [], ◌∷◌, ◌++◌, length, map, Bool, true, false, refl, sym, subst}
use Rattle.std.specs.Prelude.{ℤ, ◌&&◌, ◌||◌, Option, Some, None, Result, Ok, Err, filter, is_some, nat_le, not, position, slice_set, if◌then◌else◌}
use Rattle.std.specs.FinMap.{remove}
use Rattle.std.specs.List.{AllByRecursion}
use Rattle.std.proofs.lemmas.Bool.{cond_both}
use Rattle.std.proofs.lemmas.Option.{same_Some}
use Rattle.qx_base.specs.declared.errno.Errno.{Errno}
use Rattle.qx_base.specs.declared.errno.Errno.TheVariants.{EACCES, EBADF, EBUSY, EEXIST, EINVAL, EISDIR, ENOENT, ENOTDIR, ENOTEMPTY, EPIPE}
use Rattle.qx_devices.specs.declared.Device.{Device}
use Rattle.qx_types.specs.declared.fields.NotifyAction.{NotifyAction}
use Rattle.qx_types.specs.declared.fields.Whence.{Whence}
use Rattle.qx_types.specs.declared.flags.OFlags.{OFlags}
use Rattle.qx_types.specs.declared.flags.TheConstants.OFlags.{CREAT, EXCL, TRUNC}
use Rattle.qx_types.specs.declared.limits.TheConstants.Limits.{OFFSET}
use Rattle.qx_types.specs.declared.names.Coid.{Coid}
use Rattle.qx_types.specs.declared.names.Manager.{Manager}
use Rattle.qx_types.specs.declared.names.Manager.TheVariants as managers
use Rattle.qx_types.specs.declared.outcome.Answer.{Answer}
use Rattle.qx_types.specs.declared.outcome.Answer.TheVariants.{Failed, Reply as Replied}
use Rattle.qx_types.specs.declared.outcome.Outcome.TheVariants.{WrongState}
use Rattle.qx_types.specs.Managers.{manager_number}
use Rattle.qx_wire.specs.declared.message.Meaning.{Meaning}
use Rattle.qx_wire.specs.declared.message.Message.{Message}
use Rattle.qx_wire.specs.declared.message.Message.TheVariants as msg
use Rattle.qx_machine.specs.declared.rows.Caller.{Caller}
use Rattle.qx_machine.specs.declared.rows.Client.{Client}
use Rattle.qx_machine.specs.declared.rows.Context.{Context}
use Rattle.qx_machine.specs.declared.rows.Effect.{Effect}
use Rattle.qx_machine.specs.declared.rows.Attribute.{Attribute}
use Rattle.qx_machine.specs.declared.rows.Kind.{Kind}
use Rattle.qx_machine.specs.declared.rows.Kind.TheVariants as kind
use Rattle.qx_machine.specs.declared.rows.Kind.TheVariants.{Directory, File}
use Rattle.qx_machine.specs.declared.rows.Manner.{Manner}
use Rattle.qx_machine.specs.declared.rows.NewDup.{NewDup}
use Rattle.qx_machine.specs.declared.rows.NewOpen.{NewOpen}
use Rattle.qx_machine.specs.declared.rows.Opened.{Opened}
use Rattle.qx_machine.specs.declared.rows.PulseWish.{PulseWish}
use Rattle.qx_machine.specs.declared.rows.Sides.{Sides}
use Rattle.qx_machine.specs.declared.rows.Target.{Target}
use Rattle.qx_machine.specs.declared.rows.WaitingCall.{WaitingCall}
use Rattle.qx_machine.specs.declared.rows.Wish.{Wish}
use Rattle.qx_machine.specs.Defaults.{MadeInode, allows, chmod_block, cleared, close_last, close_ocb, dup_open, free_block, is_own, list_block, made_at, make_directory, open_spot, open_existing, open_missing, open_path, opened, own_block, pipe_in, rename_path, rename_to, stat_block, stat_path, unlink_path, unnamed, with_both_changed, without_block, without_name, without_unused, writable}
use Rattle.qx_machine.specs.Events.{notified}
use Rattle.qx_machine.specs.Files.{base, moved_by}
use Rattle.qx_machine.specs.Functions.{Deed, Reply, message_deed, new_dup, new_open, reply_alone, side_root}
use Rattle.qx_machine.specs.Inodes.{block_number, blocks_of_client, dup_block, has, is_shared, is_unused, new_attribute, new_inode, open_block, reads, with_attribute, writes}
use Rattle.qx_isolation.specs.Judgements.{found, need}
use Rattle.qx_machine.specs.Managers.{close_all, close_client, manager_deed, or_unreplied, own_kind, pipe_connect, pipe_io}
use Rattle.qx_machine.specs.Names.{Spot, is_below, is_directory, is_empty, is_same_key, names_in, spot}
use Rattle.qx_machine.specs.Notification.{conditions_at, event_of, notify_block}
use Rattle.qx_machine.specs.Performing.{context_of, deed_of, dup_of, opened_by, read_message, works_over}
use Rattle.qx_machine.specs.PipeManager.{cancel_call, deed_of_call, read_pipe, released, seek_pipe, deed_of_pipe, write_pipe}
use Rattle.qx_machine.specs.Pipes.{PipeAfter, Pipe, all_answered, and_then, cancel, clean, clean_read, clean_write, dismissed, first_answered, nobody_answered, one_answered, pipe_of, read, read_told, readers_dismissed, readers_ended, release, served, settle, staying, told_or_waiting, tried, waiting_unless, without_bytes, write, write_told, writers_dismissed, writers_ended}
use Rattle.qx_machine.specs.Processes.{Process}
use Rattle.qx_machine.specs.RamManager.{emptied, read_file, seek_file, write_file, written_at}
use Rattle.qx_machine.specs.Resources.{Resources, with_empty, without_content}
use Rattle.qx_isolation.specs.Rows.{row_at}
use Rattle.qx_machine.specs.Servers.{is_numbered}
use Rattle.qx_machine.specs.Verdicts.{sides_at}
use Rattle.qx_machine.specs.Waiting.{caller_in, Pipes, holds, is_call, is_gone, offered, waiting_call, wanted}
use Rattle.qx_machine.proofs.AtOnce.{IsIdle, RepliesIdle, call-by, read-idle, write-idle}
use Rattle.qx_machine.proofs.Gives.{Gives, found-row, gives_by, gives_done, gives_error, gives_if, gives_more, gives_on, gives-value}
use Rattle.qx_isolation.proofs.Places.{row_at-set_cases}

module _ {A : Type 0} (P : A → Type 0) where
  all-append : (xs ys : List A) → AllByRecursion P xs → AllByRecursion P ys → AllByRecursion P (xs ++ ys)
  all-append [] ys h k = k
  all-append (x ∷ xs) ys h k = (h.0, all-append xs ys h.1 k)

  all-filter : (test : A → Bool) (xs : List A) → AllByRecursion P xs → AllByRecursion P (filter test xs)
  all-filter test [] h = tt
  all-filter test (x ∷ xs) h = cond_both (test x) (x ∷ filter test xs) (filter test xs) (AllByRecursion P) (λ passes. (h.0, all-filter test xs h.1)) (λ fails. all-filter test xs h.1)

-- ---- a pipe

module _ {W : Type 0} (P : W → Type 0) where
  -- who waits in a pipe has the property
  pub record InPipe (pipe : Pipe W) : Type 0 where
    pub readers : AllByRecursion P pipe.readers
    pub writers : AllByRecursion P pipe.writers

  -- who is answered has it
  abbrev pub Answered : List (W × Answer) → Type 0
  Answered answers = AllByRecursion (λ answer. P answer.0) answers

  -- who waits in the pipe as it is then, and who was answered
  record InAfter (after : PipeAfter W) : Type 0 where
    pipe : InPipe after.pipe
    answers : Answered after.answers

  -- ---- answers

  answered-all : (leaves : W → Bool) (answer : Answer) (all : List W) → AllByRecursion P all → Answered (all_answered leaves answer all)
  answered-all leaves answer [] h = tt
  answered-all leaves answer (who ∷ all) h =
      cond_both (leaves who) (who ∷ filter leaves all) (filter leaves all) (λ left. Answered (map (λ who. (who, answer)) left))
      (λ is. (h.0, answered-all leaves answer all h.1)) (λ is_not. answered-all leaves answer all h.1)

  nobody-keeps : (p : Pipe W) → InPipe p → InAfter (nobody_answered p)
  nobody-keeps p h = record { pipe = h; answers = tt }

  then-keeps : (first : PipeAfter W) (next : Pipe W → PipeAfter W) → InAfter first → ((p : Pipe W) → InPipe p → InAfter (next p)) → InAfter (and_then first next)
  then-keeps first next h keeps = record {
    pipe = (keeps first.pipe h.pipe).pipe;
    answers = all-append (λ answer. P answer.0) first.answers (next first.pipe).answers h.answers (keeps first.pipe h.pipe).answers;
  }

  if-keeps : (b : Bool) (x y : PipeAfter W) → InAfter x → InAfter y → InAfter (if b then x else y)
  if-keeps true x y h k = h
  if-keeps false x y h k = k

  -- ---- settling

  module _ (wanted : W → ℕ) (offered : W → List ℕ) where
    tried-keeps : (who : W) (told : Option (Answer × List ℕ)) (next : List ℕ → PipeAfter W) (otherwise : PipeAfter W) → P who → ((bytes : List ℕ) → InAfter (next bytes)) → InAfter otherwise → InAfter (tried who told next otherwise)
    tried-keeps who None next otherwise own left h = h
    tried-keeps who (Some (answer, bytes)) next otherwise own left h = record { pipe = (left bytes).pipe; answers = (own, (left bytes).answers) }

    served-keeps : (device : Option Device) (bytes : List ℕ) (readers writers : List W) → AllByRecursion P readers → AllByRecursion P writers → InAfter (served wanted offered device bytes readers writers)
    served-keeps device bytes [] [] r w = nobody-keeps _ (record { readers = r; writers = w })
    served-keeps device bytes (reader ∷ readers) [] r w =
        tried-keeps reader (read_told wanted offered device bytes reader) (λ left. served wanted offered device left readers []) (nobody_answered (pipe_of device bytes (reader ∷ readers) []))
        r.0 (λ left. served-keeps device left readers [] r.1 w)
        (nobody-keeps (pipe_of device bytes (reader ∷ readers) []) (record { readers = r; writers = w }))
    served-keeps device bytes [] (writer ∷ writers) r w =
        tried-keeps writer (write_told wanted offered device bytes writer) (λ left. served wanted offered device left [] writers) (nobody_answered (pipe_of device bytes [] (writer ∷ writers)))
        w.0 (λ left. served-keeps device left [] writers r w.1)
        (nobody-keeps (pipe_of device bytes [] (writer ∷ writers)) (record { readers = r; writers = w }))
    served-keeps device bytes (reader ∷ readers) (writer ∷ writers) r w =
        let neither = nobody_answered (pipe_of device bytes (reader ∷ readers) (writer ∷ writers)) in
        let written = tried writer (write_told wanted offered device bytes writer) (λ left. served wanted offered device left (reader ∷ readers) writers) neither in
        tried-keeps reader (read_told wanted offered device bytes reader) (λ left. served wanted offered device left readers (writer ∷ writers)) written
        r.0 (λ left. served-keeps device left readers (writer ∷ writers) r.1 w)
        (tried-keeps writer (write_told wanted offered device bytes writer) (λ left. served wanted offered device left (reader ∷ readers) writers) neither
        w.0 (λ left. served-keeps device left (reader ∷ readers) writers r w.1)
        (nobody-keeps (pipe_of device bytes (reader ∷ readers) (writer ∷ writers)) (record { readers = r; writers = w })))

    settle-keeps : (p : Pipe W) → InPipe p → InAfter (settle wanted offered p)
    unfolding settle
    settle-keeps p h = served-keeps p.device p.bytes p.readers p.writers h.readers h.writers

  -- ---- who leaves

  readers_dismissed-keeps : (leaves : W → Bool) (answer : Answer) (p : Pipe W) → InPipe p → InAfter (readers_dismissed leaves answer p)
  readers_dismissed-keeps leaves answer p h = record {
    pipe = record { readers = all-filter P _ p.readers h.readers; writers = h.writers };
    answers = answered-all leaves answer p.readers h.readers;
  }

  writers_dismissed-keeps : (leaves : W → Bool) (answer : Answer) (p : Pipe W) → InPipe p → InAfter (writers_dismissed leaves answer p)
  writers_dismissed-keeps leaves answer p h = record {
    pipe = record { readers = h.readers; writers = all-filter P _ p.writers h.writers };
    answers = answered-all leaves answer p.writers h.writers;
  }

  dismissed-keeps : (leaves : W → Bool) (answer : Answer) (p : Pipe W) → InPipe p → InAfter (dismissed leaves answer p)
  dismissed-keeps leaves answer p h = then-keeps _ _ (readers_dismissed-keeps leaves answer p h) (writers_dismissed-keeps leaves answer)

  -- ---- READ and WRITE

  one-keeps : (who : W) (answer : Answer) (p : Pipe W) → P who → InPipe p → InAfter (one_answered who answer p)
  one-keeps who answer p own h = record { pipe = h; answers = (own, tt) }

  waiting-keeps : (manner : Manner) (who : W) (p with_it : Pipe W) → P who → InPipe p → InPipe with_it → InAfter (waiting_unless manner who p with_it)
  waiting-keeps manner who p with_it own h waits =
      if-keeps manner.is_nonblock _ _ (one-keeps who _ p own h) (if-keeps manner.is_asked _ _ (one-keeps who _ p own h) (nobody-keeps with_it waits))

  module _ (wanted : W → ℕ) (offered : W → List ℕ) where
    told-keeps : (manner : Manner) (who : W) (ended : Option Answer) (told : Option (Answer × List ℕ)) (p with_it : Pipe W) → P who → InPipe p → InPipe with_it → InAfter (told_or_waiting wanted offered manner who ended told p with_it)
    told-keeps manner who (Some answer) told p with_it own h waits = one-keeps who answer p own h
    told-keeps manner who None told p with_it own h waits =
        tried-keeps wanted offered who told (λ left. settle wanted offered (record p { bytes = left })) (waiting_unless manner who p with_it) own (λ left. settle-keeps wanted offered _ (record { readers = h.readers; writers = h.writers })) (waiting-keeps manner who p with_it own h waits)

    clean_read-keeps : (manner : Manner) (reader : W) → P reader → (p : Pipe W) → InPipe p → InAfter (clean_read wanted offered manner reader p)
    clean_read-keeps manner reader own p h = told-keeps manner reader _ _ p _ own h (record { readers = all-append P p.readers (reader ∷ []) h.readers (own, tt); writers = h.writers })

    clean_write-keeps : (manner : Manner) (writer : W) → P writer → (p : Pipe W) → InPipe p → InAfter (clean_write wanted offered manner writer p)
    clean_write-keeps manner writer own p h = told-keeps manner writer _ _ p _ own h (record { readers = h.readers; writers = all-append P p.writers (writer ∷ []) h.writers (own, tt) })

  -- ---- the freeing of a block

  readers_ended-keeps : (sides : Sides) (p : Pipe W) → InPipe p → InAfter (readers_ended sides p)
  readers_ended-keeps sides p h = if-keeps sides.for_writing _ _ (nobody-keeps p h) (readers_dismissed-keeps (λ who. true) (Replied 0 []) p h)

  writers_ended-keeps : (sides : Sides) (p : Pipe W) → InPipe p → InAfter (writers_ended sides p)
  writers_ended-keeps sides p h = if-keeps sides.for_reading _ _ (nobody-keeps p h) (writers_dismissed-keeps (λ who. true) (Failed EPIPE) p h)

  without_bytes-keeps : (sides : Sides) (p : Pipe W) → InPipe p → InAfter (without_bytes sides p)
  without_bytes-keeps sides p h = nobody-keeps _ (cond_both (sides.for_reading || sides.for_writing) p (record p { bytes = [] }) InPipe (λ some. h) (λ none. record { readers = h.readers; writers = h.writers }))

  -- ---- those whose process has not ended

  -- a property and that one are what cleaning leaves of it
  abbrev pub Left : (W → Bool) → W → Type 0
  Left gone who = P who × (gone who ≡ false)

  left-kept : (gone : W → Bool) (xs : List W) → AllByRecursion P xs → AllByRecursion (Left gone) (staying gone xs)
  left-kept gone [] h = tt
  left-kept gone (x ∷ xs) h = left-if (gone x) refl (left-kept gone xs h.1) where
    left-if : (is : Bool) → gone x ≡ is → AllByRecursion (Left gone) (staying gone xs) → AllByRecursion (Left gone) (if not is then x ∷ staying gone xs else staying gone xs)
    left-if true is rest = rest
    left-if false is rest = ((h.0, is), rest)

module _ {W : Type 0} (P : W → Type 0) (wanted : W → ℕ) (offered : W → List ℕ) (gone : W → Bool) where
  abbrev IsLeft : W → Type 0
  IsLeft = Left P gone

  clean-keeps : (p : Pipe W) → InPipe P p → InAfter IsLeft (clean wanted offered gone p)
  clean-keeps p h = settle-keeps IsLeft wanted offered _ (record { readers = left-kept P gone p.readers h.readers; writers = left-kept P gone p.writers h.writers })

  cancel-keeps : (is_asked : W → Bool) (p : Pipe W) → InPipe P p → InAfter IsLeft (cancel wanted offered gone is_asked p)
  cancel-keeps is_asked p h = then-keeps IsLeft _ _ (then-keeps IsLeft _ _ (clean-keeps p h) (dismissed-keeps IsLeft is_asked _)) (settle-keeps IsLeft wanted offered)

  read-keeps : (manner : Manner) (reader : W) (p : Pipe W) → IsLeft reader → InPipe P p → InAfter IsLeft (read wanted offered gone manner reader p)
  read-keeps manner reader p own h = then-keeps IsLeft _ _ (clean-keeps p h) (clean_read-keeps IsLeft wanted offered manner reader own)

  write-keeps : (manner : Manner) (writer : W) (p : Pipe W) → IsLeft writer → InPipe P p → InAfter IsLeft (write wanted offered gone manner writer p)
  write-keeps manner writer p own h = then-keeps IsLeft _ _ (clean-keeps p h) (clean_write-keeps IsLeft wanted offered manner writer own)

  release-keeps : (is_on_it : W → Bool) (sides : Sides) (p : Pipe W) → InPipe P p → InAfter IsLeft (release wanted offered gone is_on_it sides p)
  release-keeps is_on_it sides p h =
      then-keeps IsLeft _ _
      (then-keeps IsLeft _ _
      (then-keeps IsLeft _ _ (then-keeps IsLeft _ _ (then-keeps IsLeft _ _ (clean-keeps p h) (dismissed-keeps IsLeft is_on_it _)) (readers_ended-keeps IsLeft (sides_at p.device sides))) (writers_ended-keeps IsLeft (sides_at p.device sides)))
      (settle-keeps IsLeft wanted offered))
      (without_bytes-keeps IsLeft (sides_at p.device sides))

-- ---- the pipes of a user

module _ (P : WaitingCall → Type 0) where
  -- who waits in any of the pipes has the property
  pub record InPipes (pipes : Pipes) : Type 0 where
    pub each : (inode : ℕ) (pipe : Pipe WaitingCall) → row_at pipes inode ≡ Some pipe → InPipe P pipe

  -- who is answered has it, and its process has not ended
  abbrev pub Stays : WaitingCall → Type 0
  Stays = Left P is_gone

  -- who waits in the pipes after a deed, and who is answered by it
  pub record InDeed (deed : Deed Resources) : Type 0 where
    pub pipes : InPipes deed.state.pipes
    pub answers : Answered Stays deed.answers

  set-keeps : (pipes : Pipes) (inode : ℕ) (row : Option (Pipe WaitingCall)) → InPipes pipes → ((pipe : Pipe WaitingCall) → row ≡ Some pipe → InPipe P pipe) → InPipes (slice_set pipes inode row)
  set-keeps pipes inode row h new = record {
    each = λ other pipe here. elim (row_at-set_cases pipes inode other row pipe here) [ inl before ↦ h.each other pipe before | inr put ↦ new pipe put ];
  }

  empty-keeps : (kind : Kind) (inode : ℕ) (r : Resources) → InPipes r.pipes → InPipes (with_empty kind inode r).pipes
  empty-keeps File inode r h = h
  empty-keeps Directory inode r h = h
  empty-keeps kind.Pipe inode r h = set-keeps r.pipes inode _ h (λ pipe made. subst (InPipe P) (same_Some _ _ made) (record { readers = tt; writers = tt }))
  empty-keeps (kind.Device device) inode r h = set-keeps r.pipes inode _ h (λ pipe made. subst (InPipe P) (same_Some _ _ made) (record { readers = tt; writers = tt }))

  content-keeps : (kind : Kind) (inode : ℕ) (r : Resources) → InPipes r.pipes → InPipes (without_content kind inode r).pipes
  content-keeps File inode r h = h
  content-keeps Directory inode r h = h
  content-keeps kind.Pipe inode r h = set-keeps r.pipes inode None h (λ pipe none. absurd (cc))
  content-keeps (kind.Device device) inode r h = set-keeps r.pipes inode None h (λ pipe none. absurd (cc))

  -- ---- what is done to a pipe

  -- whoever stays in a pipe has the property
  stay : (calls : List WaitingCall) → AllByRecursion Stays calls → AllByRecursion P calls
  stay [] h = tt
  stay (call ∷ calls) h = (h.0.0, stay calls h.1)

  after-keeps : (r : Resources) (inode moment : ℕ) (after : PipeAfter WaitingCall) → InPipes r.pipes → InAfter Stays after → InDeed (deed_of_pipe r inode moment after)
  after-keeps r inode moment after h k = record {
    pipes = set-keeps r.pipes inode (Some after.pipe) h (λ pipe put. subst (InPipe P) (same_Some _ _ put) (record { readers = stay after.pipe.readers k.pipe.readers; writers = stay after.pipe.writers k.pipe.writers }));
    answers = k.answers;
  }

  released-keeps : (r : Resources) (number inode moment : ℕ) (row : Option (Pipe WaitingCall)) → InPipes r.pipes → ((pipe : Pipe WaitingCall) → row ≡ Some pipe → InPipe P pipe) → InDeed (released r number inode moment row)
  released-keeps r number inode moment None h here = record { pipes = h; answers = tt }
  released-keeps r number inode moment (Some pipe) h here = after-keeps r inode moment _ h (release-keeps P wanted offered is_gone _ _ pipe (here pipe refl))

  pub cancel-gives : (r : Resources) (process thread call moment : ℕ) → InPipes r.pipes → Gives InDeed (cancel_call r process thread call moment)
  cancel-gives r process thread call moment h =
      gives_on _ (found (position (holds (is_call process thread call)) r.pipes) WrongState) _ (λ inode at.
      gives_on _ (found (row_at r.pipes inode) WrongState) _ (λ pipe here.
      gives_done _ _ (after-keeps r inode moment _ h (cancel-keeps P wanted offered is_gone _ pipe (h.each inode pipe (found-row _ _ pipe here))))))

-- ---- deeds that reply

-- the message is replied to, nobody else is answered, and the pipes have a property
pub record Quiet (K : Pipes → Type 0) (deed : Deed Resources) : Type 0 where
  pub replied : is_some deed.reply ≡ true
  pub pipes : K deed.state.pipes
  pub answers : deed.answers ≡ []

module _ (K : Pipes → Type 0) where
  reply-quiet : (status : ℕ) (bytes : List ℕ) (effect : Effect) (state : Resources) → K state.pipes → Quiet K (reply_alone status bytes effect state)
  reply-quiet status bytes effect state h = record { replied = refl; pipes = h; answers = refl }

  emptied-keeps : (flags : OFlags) (inode moment : ℕ) (r : Resources) → K r.pipes → K (emptied flags inode moment r).pipes
  emptied-keeps flags inode moment r h = cond_both (has flags TRUNC && writes flags && is_some (row_at r.files inode)) _ r (λ (s : Resources). K s.pipes) (λ is. h) (λ is_not. h)

  dup-gives : (r : Resources) (dup : NewDup) → K r.pipes → Gives (Quiet K) (dup_open r dup)
  dup-gives r dup h = gives_on _ (dup_block r.inodes dup.old.number) _ (λ inodes is. gives_done _ _ (reply-quiet _ _ _ _ h))

  opened-gives : (over : NewOpen) (flags : OFlags) (inode : ℕ) (r : Resources) → K r.pipes → Gives (Quiet K) (opened over flags inode r)
  opened-gives over flags inode r h = gives_on _ (open_block r.inodes inode flags over.client) _ (λ block is. gives_done _ _ (reply-quiet _ _ _ _ h))

  existing-gives : (r : Resources) (over : NewOpen) (inode : ℕ) (wish : Wish) → K r.pipes → Gives (Quiet K) (open_existing r over inode wish)
  existing-gives r over inode wish h =
      gives_on _ (found (row_at r.inodes.attributes inode) ENOENT) _ (λ attribute there.
      gives_on _ (need (not (has wish.flags CREAT && has wish.flags EXCL)) EEXIST) _ (λ shared is_shared.
      gives_on _ (need (not (is_directory attribute.kind && writes wish.flags)) EISDIR) _ (λ fitting is_fitting.
      gives_on _ (need (allows attribute r.user wish.flags) EACCES) _ (λ allowed is_allowed.
      opened-gives over wish.flags inode (emptied wish.flags inode wish.moment r) (emptied-keeps wish.flags inode wish.moment r h)))))

  made-gives : (r : Resources) (at : Spot) (parent : Attribute) (kind : Kind) (mode moment : ℕ) → ((inode : ℕ) (s : Resources) → K s.pipes → K (with_empty kind inode s).pipes) → K r.pipes
      → Gives (λ (made : MadeInode). K made.after.pipes) (made_at r at parent kind mode moment)
  made-gives r at parent kind mode moment empty h = gives_on _ (new_inode r.inodes (new_attribute kind mode r.user moment)) _ (λ made is. gives_done _ _ (empty made.number _ h))

  missing-gives : (own : Kind) (r : Resources) (over : NewOpen) (at : Spot) (wish : Wish) → ((inode : ℕ) (s : Resources) → K s.pipes → K (with_empty own inode s).pipes) → K r.pipes → Gives (Quiet K) (open_missing own r over at wish)
  missing-gives own r over at wish empty h =
      gives_on _ (need (has wish.flags CREAT) ENOENT) _ (λ making is_making.
      gives_on _ (writable r.inodes r.user at.parent) _ (λ parent is_parent.
      gives_on _ (block_number r.inodes) _ (λ free is_free.
      gives_by (λ (made : MadeInode). K made.after.pipes) _ (made_at r at parent own wish.mode wish.moment) _ (made-gives r at parent own wish.mode wish.moment empty h) (λ made kept.
      opened-gives over wish.flags made.inode made.after kept))))

  open_at-gives : (own : Kind) (r : Resources) (over : NewOpen) (at : Spot) (there : Option ℕ) (wish : Wish) → ((inode : ℕ) (s : Resources) → K s.pipes → K (with_empty own inode s).pipes) → K r.pipes → Gives (Quiet K) (open_spot own r over at there wish)
  open_at-gives own r over at (Some inode) wish empty h = existing-gives r over inode wish h
  open_at-gives own r over at None wish empty h = missing-gives own r over at wish empty h

  open-gives : (own : Kind) (r : Resources) (over : NewOpen) (rest : List (List ℕ)) (wish : Wish) → ((inode : ℕ) (s : Resources) → K s.pipes → K (with_empty own inode s).pipes) → K r.pipes → Gives (Quiet K) (open_path own r over rest wish)
  open-gives own r over [] wish empty h = existing-gives r over over.root wish h
  open-gives own r over (name ∷ rest) wish empty h =
      gives_on _ (spot r.inodes r.names r.user over.root (name ∷ rest) ENOENT) _ (λ at is. open_at-gives own r over at at.inode wish empty h)

  directory-gives : (r : Resources) (root mode : ℕ) (rest : List (List ℕ)) (moment : ℕ) → K r.pipes → Gives (Quiet K) (make_directory r root mode rest moment)
  directory-gives r root mode rest moment h =
      gives_on _ (spot r.inodes r.names r.user root rest EEXIST) _ (λ at is.
      gives_on _ (need (not (is_some at.inode)) EEXIST) _ (λ missing is_missing.
      gives_on _ (writable r.inodes r.user at.parent) _ (λ parent is_parent.
      gives_by (λ (made : MadeInode). K made.after.pipes) _ (made_at r at parent Directory mode moment) _ (made-gives r at parent Directory mode moment (λ inode s k. k) h) (λ made kept. gives_done _ _ (reply-quiet _ _ _ _ kept)))))

  -- ---- what goes

  module _ (own : Kind) (content : (inode : ℕ) (s : Resources) → K s.pipes → K (without_content own inode s).pipes) where
    unused-keeps : (inode : ℕ) (r : Resources) → K r.pipes → K (without_unused own inode r).pipes
    unused-keeps inode r h = cond_both (is_unused r.inodes inode (row_at r.inodes.attributes inode)) _ r (λ (s : Resources). K s.pipes) (λ is. content inode _ h) (λ is_not. h)

    unlink-gives : (r : Resources) (root : ℕ) (rest : List (List ℕ)) (moment : ℕ) → K r.pipes → Gives (Quiet K) (unlink_path own r root rest moment)
    unlink-gives r root rest moment h =
        gives_on _ (spot r.inodes r.names r.user root rest EBUSY) _ (λ at is.
        gives_on _ (found at.inode ENOENT) _ (λ inode there.
        gives_on _ (writable r.inodes r.user at.parent) _ (λ parent is_parent.
        gives_on _ (need (is_empty (names_in r.names inode)) ENOTEMPTY) _ (λ empty is_empty.
        gives_on _ (found (row_at r.inodes.attributes inode) ENOENT) _ (λ attribute has.
        gives_on _ (need (is_own own attribute.kind) ENOENT) _ (λ mine is_mine. gives_done _ _ (reply-quiet _ _ _ _ (unused-keeps inode (without_name at parent inode attribute moment r) h))))))))

    cleared-gives : (attribute : Attribute) (to : Spot) (there : Option ℕ) (moment : ℕ) (r : Resources) → K r.pipes → Gives (λ (s : Resources). K s.pipes) (cleared own attribute to there moment r)
    cleared-gives attribute to None moment r h = gives_done _ _ h
    cleared-gives attribute to (Some there) moment r h =
        gives_on _ (found (row_at r.inodes.attributes there) ENOENT) _ (λ target is.
        gives_on _ (need (is_directory target.kind || not (is_directory attribute.kind)) ENOTDIR) _ (λ onto is_onto.
        gives_on _ (need (is_directory attribute.kind || not (is_directory target.kind)) EISDIR) _ (λ no_directory is_none.
        gives_on _ (need (is_empty (names_in r.names there)) ENOTEMPTY) _ (λ empty is_empty.
        gives_on _ (need (is_own own target.kind) ENOENT) _ (λ mine is_mine. gives_done _ _ (unused-keeps there (record r { inodes = with_attribute r.inodes there (unnamed moment target); names = remove r.names to.key }) h))))))

    rename_to-gives : (r : Resources) (from : Spot) (inode : ℕ) (parent : Attribute) (to : Spot) (other : Attribute) (moment : ℕ) → K r.pipes → Gives (Quiet K) (rename_to own r from inode parent to other moment)
    rename_to-gives r from inode parent to other moment h =
        gives_on _ (found (row_at r.inodes.attributes inode) ENOENT) _ (λ attribute has.
        gives_on _ (need (not (is_below from.key to.key.0 to.key.1)) EINVAL) _ (λ outside is_outside.
        gives_by (λ (s : Resources). K s.pipes) _ (cleared own attribute to to.inode moment (with_both_changed from parent to other moment r)) _ (cleared-gives attribute to to.inode moment _ h) (λ free kept. gives_done _ _ (reply-quiet _ _ _ _ kept))))

    rename-gives : (r : Resources) (root : ℕ) (old new : List (List ℕ)) (moment : ℕ) → K r.pipes → Gives (Quiet K) (rename_path own r root old new moment)
    rename-gives r root old new moment h =
        gives_on _ (need (not (length old == 0) && not (length new == 0)) EBUSY) _ (λ named is_named.
        gives_on _ (spot r.inodes r.names r.user root old EBUSY) _ (λ from is_from.
        gives_on _ (found from.inode ENOENT) _ (λ inode there.
        gives_on _ (spot r.inodes r.names r.user root new EBUSY) _ (λ to is_to.
        gives_on _ (writable r.inodes r.user from.parent) _ (λ parent is_parent.
        gives_on _ (writable r.inodes r.user to.parent) _ (λ other is_other.
        gives_if _ (is_same_key from.key to.key) _ _ (gives_done _ _ (reply-quiet _ _ _ _ h)) (rename_to-gives r from inode parent to other moment h)))))))

  -- ---- what tells, and what moves

  stat_path-gives : (r : Resources) (root : ℕ) (rest : List (List ℕ)) (moment : ℕ) → K r.pipes → Gives (Quiet K) (stat_path r root rest moment)
  stat_path-gives r root rest moment h = search (gives_on, gives_done, reply-quiet, h)

  stat_block-gives : (r : Resources) (over : Opened) → K r.pipes → Gives (Quiet K) (stat_block r over)
  stat_block-gives r over h = search (gives_on, gives_done, reply-quiet, h)

  list-gives : (r : Resources) (over : Opened) (after : List ℕ) → K r.pipes → Gives (Quiet K) (list_block r over after)
  list-gives r over after h = search (gives_on, gives_done, reply-quiet, h)

  chmod-gives : (r : Resources) (over : Opened) (mode : ℕ) → K r.pipes → Gives (Quiet K) (chmod_block r over mode)
  chmod-gives r over mode h = search (gives_on, gives_done, reply-quiet, h)

  notify-gives : (r : Resources) (over : Opened) (action : NotifyAction) (wish : PulseWish) → K r.pipes → Gives (Quiet K) (notify_block r over action wish)
  notify-gives r over action wish h =
      gives_on _ (found (row_at r.inodes.blocks over.number) EBADF) _ (λ block opened.
      gives_on _ (notified r.limits.events action (event_of over wish) (conditions_at r (Some block)) r.events) _ (λ given is. gives_done _ _ (reply-quiet _ _ _ _ h)))

  seek_pipe-gives : (r : Resources) (over : Opened) (whence : Whence) (by : ℤ) → Gives (Quiet K) (seek_pipe r over whence by)
  seek_pipe-gives r over whence by = search (gives_on, gives_error)

  read_file-gives : (r : Resources) (over : Opened) (count : ℕ) → K r.pipes → Gives (Quiet K) (read_file r over count)
  read_file-gives r over count h = search (gives_on, gives_done, reply-quiet, h)

  seek_file-gives : (r : Resources) (over : Opened) (whence : Whence) (by : ℤ) → K r.pipes → Gives (Quiet K) (seek_file r over whence by)
  seek_file-gives r over whence by h =
      gives_on _ (found (row_at r.inodes.blocks over.number) EBADF) _ (λ block opened.
      gives_on _ (found (row_at r.files block.inode) EINVAL) _ (λ bytes here.
      gives_on _ (found (moved_by (base whence block bytes) by) EINVAL) _ (λ offset moved.
      gives_on _ (need (nat_le offset OFFSET) EINVAL) _ (λ small is_small. gives_done _ _ (reply-quiet _ _ _ _ h)))))

  written-gives : (r : Resources) (number inode : ℕ) (bytes : List ℕ) (offset : ℕ) (new : List ℕ) (moment : ℕ) → K r.pipes → Gives (Quiet K) (written_at r number inode bytes offset new moment)
  written-gives r number inode bytes offset new moment h = search (gives_on, gives_done, reply-quiet, h)

  write_file-gives : (r : Resources) (over : Opened) (new : List ℕ) → K r.pipes → Gives (Quiet K) (write_file r over new)
  write_file-gives r over new h =
      gives_on _ (found (row_at r.inodes.blocks over.number) EBADF) _ (λ block opened.
      gives_on _ (need (writes block.flags) EBADF) _ (λ may allowed.
      gives_on _ (found (row_at r.files block.inode) EBADF) _ (λ bytes here.
      cond_both (length new == 0) _ _ (Gives (Quiet K)) (λ none. gives_done _ _ (reply-quiet _ _ _ _ h)) (λ some. written-gives r over.number block.inode bytes _ new over.moment h))))

-- ---- a client that is gone

module _ (P : WaitingCall → Type 0) where
  freed-gives : (own : Kind) (r : Resources) (number moment : ℕ) → InPipes P r.pipes → Gives (InDeed P) (free_block own r number moment)
  freed-gives own r number moment h =
      gives_on _ (own_block r.inodes number own) _ (λ block is.
      let left = released-keeps P (without_block number r) number block.inode moment (pipe_in own r block.inode) h (here own block.inode) in
      gives_done _ _ (record { pipes = unused-keeps (InPipes P) own (content-keeps P own) block.inode (released (without_block number r) number block.inode moment (pipe_in own r block.inode)).state left.pipes; answers = left.answers })) where
        here : (own : Kind) (inode : ℕ) (pipe : Pipe WaitingCall) → pipe_in own r inode ≡ Some pipe → InPipe P pipe
        here kind.Pipe inode pipe is = h.each inode pipe is
        here (kind.Device device) inode pipe is = h.each inode pipe is
        here File inode pipe is = absurd (cc)
        here Directory inode pipe is = absurd (cc)

  ocb-gives : (own : Kind) (r : Resources) (number moment : ℕ) → InPipes P r.pipes → Gives (InDeed P) (close_ocb own r number moment)
  ocb-gives own r number moment h =
      gives_by (InDeed P) _ (free_block own r number moment) _ (freed-gives own r number moment h) (λ deed left. gives_done _ _ (record { pipes = left.pipes; answers = left.answers }))

  or-keeps : (r : Resources) (given : Result (Deed Resources) Errno) → InPipes P r.pipes → Gives (InDeed P) given → InDeed P (or_unreplied r given)
  or-keeps r (Ok deed) h gives = gives-value (InDeed P) (Ok deed) deed refl gives
  or-keeps r (Err error) h gives = record { pipes = h; answers = tt }

  all-keeps : (manager : Manager) (moment : ℕ) (numbers : List ℕ) (r : Resources) → InPipes P r.pipes → InDeed P (close_all manager moment numbers r)
  all-keeps manager moment [] r h = record { pipes = h; answers = tt }
  all-keeps manager moment (number ∷ numbers) r h =
      let first = or-keeps r (close_ocb (own_kind manager) r number moment) h (ocb-gives (own_kind manager) r number moment h) in
      let deed = or_unreplied r (close_ocb (own_kind manager) r number moment) in
      let rest = all-keeps manager moment numbers deed.state first.pipes in
      record { pipes = rest.pipes; answers = all-append (λ answer. Stays P answer.0) deed.answers (close_all manager moment numbers deed.state).answers first.answers rest.answers }

  -- whoever waits once a client is gone, or is answered by that, has the property
  pub client-keeps : (r : Resources) (client : Client) (moment : ℕ) → InPipes P r.pipes → InDeed P (close_client r client moment)
  client-keeps r client moment h = all-keeps client.server.manager moment (blocks_of_client r.inodes client) r h

-- ---- the managers

-- the call of a thread over a block, to read so many bytes or to write these
abbrev pub call_of : Caller → ℕ → ℕ → List ℕ → WaitingCall
call_of caller block wanted bytes = record { process = caller.process; thread = caller.thread; call = caller.call; block = block; wanted = wanted; bytes = bytes; is_gone = false }

-- the message is replied to, nobody else is answered, and the pipes are as before
abbrev IsAlone : Resources → Deed Resources → Type 0
IsAlone r deed = Quiet (λ pipes. pipes ≡ r.pipes) deed

module _ (resources : Resources) (context : Context) where
  abbrev Same : Pipes → Type 0
  Same pipes = pipes ≡ resources.pipes

  -- the pipes are as before, and nobody is answered
  record LeavesPipes (deed : Deed Resources) : Type 0 where
    pipes : Same deed.state.pipes
    answers : deed.answers ≡ []

  file-freed : (number moment : ℕ) → Gives LeavesPipes (free_block File resources number moment)
  file-freed number moment =
      gives_on _ (own_block resources.inodes number File) _ (λ block is.
      gives_done _ _ (record { pipes = unused-keeps Same File (λ inode s h. h) block.inode (without_block number resources) refl; answers = refl }))

  file-ocb : (number moment : ℕ) → Gives LeavesPipes (close_ocb File resources number moment)
  file-ocb number moment = gives_by LeavesPipes _ (free_block File resources number moment) _ (file-freed number moment) (λ deed left. gives_done _ _ (record { pipes = left.pipes; answers = left.answers }))

  file-closed : (over : Opened) → Gives (Quiet Same) (close_last File resources over)
  file-closed over =
      gives_by LeavesPipes _ (close_ocb File resources over.number over.moment) _ (file-ocb over.number over.moment) (λ deed left.
      gives_done _ _ (record { replied = refl; pipes = left.pipes; answers = left.answers }))

  ram-gives : (message : Message) → Gives (IsAlone resources) (manager_deed managers.Ram resources context message)
  ram-gives (msg.Open flags mode rest) = gives_on _ (new_open context) _ (λ over is. open-gives Same File resources over rest _ (λ inode s h. h) refl)
  ram-gives (msg.Stat rest) = gives_on _ (side_root context.target) _ (λ root is. stat_path-gives Same resources root rest context.moment refl)
  ram-gives (msg.Unlink rest) = gives_on _ (side_root context.target) _ (λ root is. unlink-gives Same File (λ inode s h. h) resources root rest context.moment refl)
  ram-gives (msg.Mknod mode rest) = gives_on _ (side_root context.target) _ (λ root is. directory-gives Same resources root mode rest context.moment refl)
  ram-gives (msg.Rename rests) = gives_on _ (side_root context.target) _ (λ root is. rename-gives Same File (λ inode s h. h) resources root rests.0 rests.1 context.moment refl)
  ram-gives (msg.Read count) = gives_on _ context.opened _ (λ over is. read_file-gives Same resources over count refl)
  ram-gives (msg.Write bytes) = gives_on _ context.opened _ (λ over is. write_file-gives Same resources over bytes refl)
  ram-gives msg.Close = gives_on _ context.opened _ (λ over is.
      gives_if _ (is_shared (row_at resources.inodes.blocks over.number)) _ _ (gives_done _ _ (reply-quiet Same _ _ _ _ refl))
      (file-closed over))
  ram-gives (msg.Dup old) = gives_on _ (new_dup context) _ (λ dup is. dup-gives Same resources dup refl)
  ram-gives (msg.Lseek whence offset) = gives_on _ context.opened _ (λ over is. seek_file-gives Same resources over whence offset refl)
  ram-gives msg.Fstat = gives_on _ context.opened _ (λ over is. stat_block-gives Same resources over refl)
  ram-gives (msg.List after) = gives_on _ context.opened _ (λ over is. list-gives Same resources over after refl)
  ram-gives (msg.Notify action conditions code value) = gives_on _ context.opened _ (λ over is. notify-gives Same resources over action _ refl)
  ram-gives (msg.Chmod mode) = gives_on _ context.opened _ (λ over is. chmod-gives Same resources over mode refl)

module _ (P : WaitingCall → Type 0) (caller : Caller) where
  -- whatever the caller's own call reads or writes has the property
  abbrev Own : Type 0
  Own = (block wanted : ℕ) (bytes : List ℕ) → P (call_of caller block wanted bytes)

  -- the caller's own call matters only where it isn't replied to
  record DeedKeeps (deed : Deed Resources) : Type 0 where
    keeps : (deed.reply ≡ None → Own) → InDeed P deed

  own-waits : (opened : Opened) (wanted : ℕ) (bytes : List ℕ) → (caller_in opened) ≡ caller → Own → P (waiting_call opened wanted bytes)
  own-waits opened wanted bytes same own = subst (λ who. P (call_of who opened.number wanted bytes)) (sym same) (own opened.number wanted bytes)

  quiet-keeps : (deed : Deed Resources) → Quiet (InPipes P) deed → DeedKeeps deed
  quiet-keeps deed quiet = record { keeps = λ own. record { pipes = quiet.pipes; answers = subst (Answered (Stays P)) (sym quiet.answers) tt } }

  alone-keeps : (resources : Resources) (deed : Deed Resources) → InPipes P resources.pipes → IsAlone resources deed → DeedKeeps deed
  alone-keeps resources deed h alone = quiet-keeps deed (record { replied = alone.replied; pipes = subst (InPipes P) (sym alone.pipes) h; answers = alone.answers })

  quiet-gives : (given : Result (Deed Resources) Errno) → Gives (Quiet (InPipes P)) given → Gives DeedKeeps given
  quiet-gives given h = gives_more (Quiet (InPipes P)) DeedKeeps given quiet-keeps h

  idle-keeps : (pipe : Pipe WaitingCall) → IsIdle pipe → InPipe P pipe
  idle-keeps pipe nobody = record { readers = subst (AllByRecursion P) (sym nobody.0) tt; writers = subst (AllByRecursion P) (sym nobody.1) tt }

  -- a READ or a WRITE that is left without a reply may be the caller's own call; of one that is replied to nobody waits
  call-keeps : (resources : Resources) (inode moment : ℕ) (pipe : Pipe WaitingCall) (after : PipeAfter WaitingCall) → InPipes P resources.pipes → (Own → InAfter (Stays P) after) → (IsIdle pipe → RepliesIdle after) → DeedKeeps (deed_of_call resources inode moment pipe after)
  call-keeps resources inode moment pipe after h kept replies =
      call-by DeedKeeps resources inode moment pipe after (record { keeps = λ own. after-keeps P resources inode moment after h (kept (own refl)) }) (λ nobody status bytes is.
      quiet-keeps _ (reply-quiet (InPipes P) _ _ _ _ (set-keeps P resources.pipes inode (Some after.pipe) h (λ left put. subst (InPipe P) (same_Some _ _ put) (idle-keeps after.pipe (replies nobody status bytes is))))))

  module _ (resources : Resources) (h : InPipes P resources.pipes) (context : Context) (callers : (over : Opened) → context.opened ≡ Ok over → caller_in over ≡ caller) where
    pipe-closed : (own : Kind) (over : Opened) → Gives DeedKeeps (close_last own resources over)
    pipe-closed own over =
        gives_by (InDeed P) _ (close_ocb own resources over.number over.moment) _ (ocb-gives P own resources over.number over.moment h) (λ deed left.
        gives_done _ _ (record { keeps = λ own. record { pipes = left.pipes; answers = left.answers } }))

    read-own : (over : Opened) (count : ℕ) → caller_in over ≡ caller → Gives DeedKeeps (read_pipe resources over count)
    read-own over count same =
        gives_on _ (found (row_at resources.inodes.blocks over.number) EBADF) _ (λ block opened.
        gives_on _ (need (reads block.flags) EBADF) _ (λ may allowed.
        gives_on _ (found (row_at resources.pipes block.inode) EISDIR) _ (λ pipe here.
        gives_done _ _ (call-keeps resources block.inode over.moment pipe _ h
        (λ own. read-keeps P wanted offered is_gone _ _ pipe (own-waits over count [] same own, refl) (h.each block.inode pipe (found-row _ _ pipe here))) (read-idle wanted offered is_gone _ _ pipe)))))

    write-own : (over : Opened) (bytes : List ℕ) → caller_in over ≡ caller → Gives DeedKeeps (write_pipe resources over bytes)
    write-own over bytes same =
        gives_on _ (found (row_at resources.inodes.blocks over.number) EBADF) _ (λ block opened.
        gives_on _ (need (writes block.flags) EBADF) _ (λ may allowed.
        gives_on _ (found (row_at resources.pipes block.inode) EBADF) _ (λ pipe here.
        gives_done _ _ (call-keeps resources block.inode over.moment pipe _ h
        (λ own. write-keeps P wanted offered is_gone _ _ pipe (own-waits over 0 bytes same own, refl) (h.each block.inode pipe (found-row _ _ pipe here))) (write-idle wanted offered is_gone _ _ pipe)))))

    pipe-gives : (own : Kind) (message : Message) → Gives DeedKeeps (message_deed (pipe_connect own) (pipe_io own) resources context message)
    pipe-gives own (msg.Open flags mode rest) = gives_on _ (new_open context) _ (λ over is. quiet-gives _ (open-gives (InPipes P) own resources over rest _ (empty-keeps P own) h))
    pipe-gives own (msg.Stat rest) = gives_on _ (side_root context.target) _ (λ root is. quiet-gives _ (stat_path-gives (InPipes P) resources root rest context.moment h))
    pipe-gives own (msg.Unlink rest) = gives_on _ (side_root context.target) _ (λ root is. quiet-gives _ (unlink-gives (InPipes P) own (content-keeps P own) resources root rest context.moment h))
    pipe-gives own (msg.Mknod mode rest) = gives_error _ _
    pipe-gives own (msg.Rename rests) = gives_error _ _
    pipe-gives own (msg.Read count) = gives_on _ context.opened _ (λ over is. read-own over count (callers over is))
    pipe-gives own (msg.Write bytes) = gives_on _ context.opened _ (λ over is. write-own over bytes (callers over is))
    pipe-gives own msg.Close = gives_on _ context.opened _ (λ over is.
        gives_if _ (is_shared (row_at resources.inodes.blocks over.number)) _ _ (gives_done _ _ (quiet-keeps _ (reply-quiet (InPipes P) _ _ _ _ h)))
        (pipe-closed own over))
    pipe-gives own (msg.Dup old) = gives_on _ (new_dup context) _ (λ dup is. quiet-gives _ (dup-gives (InPipes P) resources dup h))
    pipe-gives own (msg.Lseek whence offset) = gives_on _ context.opened _ (λ over is. quiet-gives _ (seek_pipe-gives (InPipes P) resources over whence offset))
    pipe-gives own msg.Fstat = gives_on _ context.opened _ (λ over is. quiet-gives _ (stat_block-gives (InPipes P) resources over h))
    pipe-gives own (msg.List after) = gives_on _ context.opened _ (λ over is. quiet-gives _ (list-gives (InPipes P) resources over after h))
    pipe-gives own (msg.Notify action conditions code value) = gives_on _ context.opened _ (λ over is. quiet-gives _ (notify-gives (InPipes P) resources over action _ h))
    pipe-gives own (msg.Chmod mode) = gives_on _ context.opened _ (λ over is. quiet-gives _ (chmod-gives (InPipes P) resources over mode h))

    manager-gives : (manager : Manager) (message : Message) → Gives DeedKeeps (manager_deed manager resources context message)
    manager-gives managers.Ram message = gives_more (IsAlone resources) DeedKeeps _ (λ deed. alone-keeps resources deed h) (ram-gives resources context message)
    manager-gives managers.Pipe message = pipe-gives kind.Pipe message
    manager-gives (managers.Device device) message = pipe-gives (kind.Device device) message

pub opened_by-caller : (process : Process) (caller : Caller) (target : Target) (moment : ℕ) (old : Option Coid) (over : Opened) → opened_by process caller target moment old ≡ Ok over → caller_in over ≡ caller
opened_by-caller process caller target moment old over is =
    gives-value (λ over. caller_in over ≡ caller) _ over is
    (gives_on _ (works_over target.over old) _ (λ coid is_over.
    gives_on _ (found (row_at process.connections coid.0) EBADF) _ (λ connection there.
    gives_on _ (need (is_numbered (manager_number target.manager) connection.manager) EBADF) _ (λ here is_here.
    gives_on _ (found connection.block EBADF) _ (λ number has_block.
    gives_done _ _ refl)))))

module _ (resources : Resources) (process : Process) (caller : Caller) (target : Target) (moment : ℕ) (given : Meaning) (deed : Deed Resources) (is : deed_of resources (context_of process caller target moment given) given ≡ Ok deed) where
  deed-gives : (P : WaitingCall → Type 0) → InPipes P resources.pipes → DeedKeeps P caller deed
  deed-gives P h =
      gives-value (DeedKeeps P caller) _ deed is
      (gives_on _ (read_message given) _ (λ message known. manager-gives P caller resources h (context_of process caller target moment given) (opened_by-caller process caller target moment (dup_of given)) target.manager message))

  -- the caller's own call may wait or be answered too
  pub deed-keeps : (P : WaitingCall → Type 0) → InPipes P resources.pipes → ((block wanted : ℕ) (bytes : List ℕ) → P (call_of caller block wanted bytes)) → InDeed P deed
  deed-keeps P h own = (deed-gives P h).keeps (λ none. own)

  -- but not where it is replied to
  pub deed-keeps_replied : (P : WaitingCall → Type 0) → InPipes P resources.pipes → (reply : Reply) → deed.reply ≡ Some reply → InDeed P deed
  deed-keeps_replied P h reply replied = (deed-gives P h).keeps (λ none. absurd (cc))
