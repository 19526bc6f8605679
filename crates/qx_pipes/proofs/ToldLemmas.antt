-- What a READ and a WRITE are told at once.
use Rattle.std.proofs.Common.{◌≡◌, ℕ, ◌<◌, Bool, true, false, List, [], ◌∷◌, length, Option, None, Some, slice_set, Result, Ok, refl, sym, ap, ◌∙◌, subst}
use Rattle.std.proofs.lemmas.Bool.{cond_both}
use Rattle.std.specs.Prelude.{◌||◌, if◌then◌else◌}
use Rattle.qx_iofunc.specs.Sizes.{sized}
use Rattle.qx_iofunc.specs.Store.{Stored, with_stored}
use Rattle.qx_machine.specs.declared.rows.Effect.TheVariants.{Keeps}
use Rattle.qx_machine.specs.declared.rows.Ocb.{Ocb}
use Rattle.qx_machine.specs.declared.rows.Opened.{Opened}
use Rattle.qx_machine.specs.declared.rows.WaitingCall.{WaitingCall}
use Rattle.qx_machine.specs.Functions.{Deed, reply_alone}
use Rattle.qx_machine.specs.Inodes.{readers_of, reads, writers_of, writes}
use Rattle.qx_machine.specs.PipeManager as machine
use Rattle.qx_machine.specs.Pipes.{PipeAfter, is_idle, nobody_answered, one_answered, only_reply, read, write}
use Rattle.qx_machine.specs.Resources.{Resources}
use Rattle.qx_isolation.specs.Rows.{row_at}
use Rattle.qx_machine.specs.Waiting.{is_gone, is_written, manner_of, offered, waiting_call, wanted}
use Rattle.qx_pipes.specs.Pipes.{Follows, seen}
use Rattle.qx_pipes.specs.Told.{bytes_told, status_told}
use Rattle.qx_pipes.proofs.PipesLemmas.{after-follows, follows, resized, there}
use Rattle.qx_shared.specs.Shared.{HasPipe, Shared, pipe_at, pipes_of, went_in, with_pipe_after}
use Rattle.qx_base.specs.declared.errno.Errno.{Errno}
use Rattle.qx_types.specs.declared.outcome.Answer.{Answer}
use Rattle.qx_types.specs.declared.outcome.Answer.TheVariants.{Reply}

-- what a message is told, and what it leaves
pub record Tells (s new : Stored) (c left : Shared) (r : Resources) (status : Option ℕ) (bytes : List ℕ) (told : Result (Deed Resources) Errno) : Type 0 where
  pub done : Ok status ≡ status_told told
  pub follow : Follows s c new left r told
  pub bytes_are : bytes ≡ bytes_told told

-- bytes went in by the one answer or by none
pub went_in-one : (call : WaitingCall) (answer : Answer) → is_written call.bytes answer ≡ went_in ((call, answer) ∷ [])
went_in-one call answer = or_false (is_written call.bytes answer)
  where
    or_false : (test : Bool) → test ≡ (test || false)
    or_false true = refl
    or_false false = refl

-- what a READ and a WRITE over an open control block do to its pipe
module _ (s : Stored) (c : Shared) (opened : Opened) (block : Ocb) where
  abbrev pub read-over : ℕ → PipeAfter WaitingCall
  read-over count = read wanted offered is_gone (manner_of (writers_of s.inodes block.inode) block opened.is_asked) (waiting_call opened count []) (pipe_at c s.user block.inode)

  abbrev pub write-over : List ℕ → PipeAfter WaitingCall
  write-over bytes = write wanted offered is_gone (manner_of (readers_of s.inodes block.inode) block opened.is_asked) (waiting_call opened 0 bytes) (pipe_at c s.user block.inode)

module _ (s : Stored) (c : Shared) (r : Resources) (opened : Opened) (block : Ocb) (at : row_at s.inodes.blocks opened.number ≡ Some block) (some : HasPipe c s.user block.inode) where
  abbrev answered : PipeAfter WaitingCall → Deed Resources
  answered after = machine.deed_of_pipe (seen r s c) block.inode opened.moment after

  abbrev deed : PipeAfter WaitingCall → Deed Resources
  deed after = machine.deed_of_call (seen r s c) block.inode opened.moment (pipe_at c s.user block.inode) after

  pub read-meant : (count : ℕ) → reads block.flags ≡ true → Ok (deed (read-over s c opened block count)) ≡ machine.read_pipe (seen r s c) opened count
  read-meant count reading = rw (at, reading, there c s.user block.inode some) refl

  pub write-meant : (bytes : List ℕ) → writes block.flags ≡ true → Ok (deed (write-over s c opened block bytes)) ≡ machine.write_pipe (seen r s c) opened bytes
  write-meant bytes writing = rw (at, writing, there c s.user block.inode some) refl

  module _ (new : Stored) (left : Shared) (inside : s.user < length c.pipes) (meant : Result (Deed Resources) Errno) (after : PipeAfter WaitingCall) (is : Ok (deed after) ≡ meant) where
    -- nobody waited, and it is answered with a reply
    pub tells-reply : (call : WaitingCall) (status : ℕ) (bytes : List ℕ) (filled : Bool) → is_idle (pipe_at c s.user block.inode) ≡ true → after ≡ one_answered call (Reply status bytes) (pipe_at left s.user block.inode)
        → left ≡ with_pipe_after c s.user block.inode (nobody_answered (pipe_at left s.user block.inode)) → filled ≡ went_in ((call, Reply status bytes) ∷ []) → new ≡ resized block.inode (sized (length (pipe_at left s.user block.inode).bytes) filled opened.moment) s
        → Tells s new c left r (Some status) bytes meant
    tells-reply call status bytes filled idle after_is left_is filled_is new_is =
        let pipe = pipe_at left s.user block.inode in
        let given : Deed Resources = reply_alone status bytes Keeps (answered (one_answered call (Reply status bytes) pipe)).state in
        let resized_is : new ≡ resized block.inode (sized (length pipe.bytes) (went_in ((call, Reply status bytes) ∷ [])) opened.moment) s = rw filled_is at new_is in
        let pipes = slice_set (pipes_of c s.user) block.inode (Some pipe) in
        let follow : Follows {E = Errno} s c new left r (Ok given) = follows s new c left r inside given (ap (λ (s : Stored). s.user) resized_is) left_is (ap (λ (new : Stored). record (with_stored r new) { pipes = pipes }) (sym resized_is)) in
        let told_is : deed after ≡ given =
        ap (λ idle. if idle then machine.replied_at_once (answered after) (only_reply after.answers) else answered after) idle ∙ ap (λ (after : PipeAfter WaitingCall). machine.replied_at_once (answered after) (only_reply after.answers)) after_is in
        subst (Tells s new c left r (Some status) bytes) (ap Ok (sym told_is) ∙ is) (record { done = refl; follow = follow; bytes_are = refl })

    -- it is answered, or waits, as the others
    pub tells-later : (filled : Bool) → (is_idle (pipe_at c s.user block.inode) ≡ true → only_reply after.answers ≡ None) → left ≡ with_pipe_after c s.user block.inode after → filled ≡ went_in after.answers
        → new ≡ resized block.inode (sized (length (pipe_at left s.user block.inode).bytes) filled opened.moment) s → Tells s new c left r None [] meant
    tells-later filled otherwise left_is filled_is new_is =
        let told_is : deed after ≡ answered after =
        cond_both {A = Deed Resources} (is_idle (pipe_at c s.user block.inode)) _ _ (λ told. told ≡ answered after) (λ idle. ap (machine.replied_at_once (answered after)) (otherwise idle)) (λ _. refl) in
        let follow = after-follows {E = Errno} s new c left r inside block.inode opened.moment after filled some left_is filled_is new_is in
        subst (Tells s new c left r None []) (ap Ok (sym told_is) ∙ is) (record { done = refl; follow = follow; bytes_are = refl })
