-- A perform frees no other process than that whose item it was: of another one that has ended a server connection is there still, or an item
-- that a worker holds, as of each in a world that a run reaches.
use Rattle.std.proofs.Common.{◌≡◌, ◌≢◌, inl, inr, ℕ, zero, suc, ◌+◌, List, [], ◌∷◌, Bool, true, false, refl, sym, ap, ap₂, ◌∙◌, arith}
use Rattle.std.specs.Prelude.{Option, Some, None, Result, Ok, Err, IsSome, ◌==◌, ◌||◌, not, if◌then◌else◌, is_some, length, option_map, slice_set}
use Rattle.std.proofs.lemmas.Bool.{cases_Bool, cases_eq, false≢true}
use Rattle.std.proofs.lemmas.Bool.Decides.{nat_tests}
use Rattle.std.proofs.lemmas.Option.{same_Some}
use Rattle.qx_types.specs.Configuration.{Configuration, limits_of}
use Rattle.qx_base.specs.declared.errno.Errno.{Errno}
use Rattle.qx_types.specs.declared.outcome.Answer.{Answer}
use Rattle.qx_types.specs.declared.outcome.Outcome.{Outcome}
use Rattle.qx_isolation.specs.declared.rows.Held.{Held}
use Rattle.qx_isolation.specs.declared.rows.OwnItem.{OwnItem}
use Rattle.qx_isolation.specs.declared.rows.OwnItem.TheVariants.{Message, Unblock, Disconnect}
use Rattle.qx_isolation.specs.declared.rows.ServerName.{ServerName}
use Rattle.qx_machine.specs.declared.rows.Caller.{Caller}
use Rattle.qx_machine.specs.declared.rows.Over.{Over}
use Rattle.qx_machine.specs.declared.rows.Sent.{Sent}
use Rattle.qx_machine.specs.declared.rows.ThreadRow.{ThreadRow}
use Rattle.qx_machine.specs.declared.rows.WaitingCall.{WaitingCall}
use Rattle.qx_machine.specs.Functions.{Deed}
use Rattle.qx_isolation.specs.Judgements.{◌>>=◌}
use Rattle.qx_machine.specs.Machine.{own_held}
use Rattle.qx_machine.specs.Parts.{Part, thread_of, with_process}
use Rattle.qx_machine.specs.Performing.{Served, after_answer, answering, caller_of, or_kept, serve_disconnect, serve_message, serve_pulse, served_by, with_answers}
use Rattle.qx_machine.specs.Processes.{Process, has_ended, has_server, living, with_thread, without_server}
use Rattle.qx_machine.specs.Resources.{Resources}
use Rattle.qx_isolation.specs.Rows.{row_at, with_row}
use Rattle.qx_machine.specs.Settling.{has_waiting, is_held, is_living, process_of_item, processes_left, row_left}
use Rattle.qx_machine.specs.Users.{serve}
use Rattle.qx_machine.specs.Waiting.{Pipes}
use Rattle.qx_machine.proofs.Living.{keeps-thread, lives-answered}
use Rattle.qx_isolation.proofs.Places.{row_at-set_other}
use Rattle.qx_process.proofs.ServerLemmas.{differs_by}
use Rattle.qx_clients.specs.Calls.{has_ended_in}

-- ---- what is told of a process

-- whether it has ended, and whether it has a server connection
abbrev signs : Process → Bool × Bool
signs process = (has_ended process, has_server process)

-- under each number but one, processes are as they were in that
abbrev pub AreLike : ℕ → List (Option Process) → List (Option Process) → Type 0
AreLike but before after = (number : ℕ) → number ≢ but → option_map signs (row_at after number) ≡ option_map signs (row_at before number)

thread-like : (thread : ℕ) (change : ThreadRow → ThreadRow) (row : Option Process) → option_map signs (option_map (with_thread thread change) row) ≡ option_map signs row
thread-like thread change None = refl
thread-like thread change (Some process) = ap (λ count. Some (count == 0, has_server process)) ((keeps-thread thread change).keeps process)

threads-like : (rows : List (Option Process)) (number thread : ℕ) (change : ThreadRow → ThreadRow) → option_map signs (row_at (with_row rows number (with_thread thread change)) number) ≡ option_map signs (row_at rows number)
threads-like [] number thread change = refl
threads-like (row ∷ rows) zero thread change = thread-like thread change row
threads-like (row ∷ rows) (suc number) thread change = threads-like rows number thread change

-- where the thread of any of them changes
like-thread : (but : ℕ) (before after : List (Option Process)) (other thread : ℕ) (change : ThreadRow → ThreadRow) → AreLike but before after → AreLike but before (with_row after other (with_thread thread change))
like-thread but before after other thread change like number differs = elim (cases_eq number other) [
  | inl same ↦ rw (sym same) (threads-like after number thread change ∙ like number differs)
  | inr apart ↦ ap (option_map signs) (row_at-set_other after other number (option_map (with_thread thread change) (row_at after other)) apart) ∙ like number differs
]

-- where the one changes
like-one : (but : ℕ) (rows : List (Option Process)) (change : Process → Process) → AreLike but rows (with_row rows but change)
like-one but rows change number differs = ap (option_map signs) (row_at-set_other rows but number (option_map change (row_at rows but)) differs)

-- where calls that waited are answered
like-answers : (but : ℕ) (before : List (Option Process)) (answers : List (WaitingCall × Answer)) (part : Part) → AreLike but before part.processes → AreLike but before (with_answers answers part).processes
like-answers but before [] part like = like
like-answers but before (first ∷ rest) part like = like-answers but before rest _ (like-thread but before part.processes first.0.process first.0.thread _ like)

-- ---- what a worker does

like-answering : (but : ℕ) (before : List (Option Process)) (part : Part) (deed : Deed Resources) → AreLike but before part.processes → AreLike but before (answering part deed).part.processes
like-answering but before part deed like = like-answers but before deed.answers _ like

like-answer : (part : Part) (process thread : ℕ) (over : Over) (given : Result (Deed Resources) Errno) → AreLike process part.processes (after_answer part process thread over given).processes
like-answer part process thread over (Ok deed) = like-answers process part.processes deed.answers _ (like-one process part.processes _)
like-answer part process thread over (Err error) = like-one process part.processes _

module _ (part : Part) (but : ℕ) where
  record ServesLike (given : Result Served Outcome) : Type 0 where
    like : AreLike but part.processes (or_kept part given).part.processes

  judged : {A : Type 0} (first : Result A Outcome) (next : A → Result Served Outcome) → ((value : A) → ServesLike (next value)) → ServesLike (first >>= next)
  judged (Ok value) next then_like = then_like value
  judged (Err outcome) next then_like = record { like = λ number differs. refl }

  answered : (prio thread : ℕ) (row : ThreadRow) (sent : Sent) (given : Result (Deed Resources) Errno) → ServesLike (Ok (served_by prio part (caller_of but thread row sent) sent given))
  answered prio thread row sent given = record { like = like-answer part but thread sent.target.over given }

  pulsed : (deed : Deed Resources) → ServesLike (Ok (answering part deed))
  pulsed deed = record { like = like-answering but part.processes part deed (λ number differs. refl) }

  disconnected : (server : ServerName) (deed : Deed Resources) → ServesLike (Ok (answering (with_process but (without_server server) part) deed))
  disconnected server deed = record { like = like-answering but part.processes (with_process but (without_server server) part) deed (like-one but part.processes (without_server server)) }

  message-like : (prio thread moment : ℕ) → ServesLike (serve_message prio part but thread moment)
  message-like prio thread moment = search (judged, answered)

  pulse-like : (thread call moment : ℕ) → ServesLike (serve_pulse part but thread call moment)
  pulse-like thread call moment = search (judged, pulsed)

  disconnect-like : (server : ServerName) (moment : ℕ) → ServesLike (serve_disconnect part (record { process = but; server = server }) moment)
  disconnect-like server moment = search (judged, disconnected)

pub served-like : (config : Configuration) (user : ℕ) (held : List OwnItem) (part : Part) (item : OwnItem) (moment : ℕ) → AreLike (process_of_item item) part.processes (serve config user held part item moment).part.processes
unfolding serve
served-like config user held part (Message process thread) moment = (message-like part process (limits_of config user).disconnect thread moment).like
served-like config user held part (Unblock process thread call) moment = (pulse-like part process thread call moment).like
served-like config user held part (Disconnect process server) moment = (disconnect-like part process server moment).like

-- ---- a process lives whose message is served

alive : (row : Option Process) → is_some (living row) ≡ true → has_ended_in row ≡ false
alive None is = absurd (cc)
alive (Some process) is = by (has_ended process) is
  where
    by : (ended : Bool) → is_some (if ended then None else Some process) ≡ true → ended ≡ false
    by true is = absurd (cc)
    by false is = refl

with_thread-lives : (row : Option Process) (thread : ℕ) → IsSome (thread_of thread row) → is_some (living row) ≡ true
with_thread-lives None thread there = absurd (false≢true there)
with_thread-lives (Some process) thread there = by process.threads there
  where
    by : (threads : List (Option ThreadRow)) → IsSome (row_at threads thread) → is_some (if length threads == 0 then None else Some process) ≡ true
    by [] there = absurd (false≢true there)
    by (first ∷ rest) there = grind (arith, nat_tests)

module _ (part : Part) where
  record ServesLiving (given : Result Served Outcome) : Type 0 where
    lives : is_living (or_kept part given).part.processes ≡ is_living part.processes

  judged_living : {A : Type 0} (first : Result A Outcome) (next : A → Result Served Outcome) → ((value : A) → ServesLiving (next value)) → ServesLiving (first >>= next)
  judged_living (Ok value) next then_lives = then_lives value
  judged_living (Err outcome) next then_lives = record { lives = refl }

  answered_living : (prio : ℕ) (caller : Caller) (sent : Sent) (given : Result (Deed Resources) Errno) → ServesLiving (Ok (served_by prio part caller sent given))
  answered_living prio caller sent given = record { lives = lives-answered part caller.process caller.thread sent.target.over given }

  message-living : (prio process thread moment : ℕ) → ServesLiving (serve_message prio part process thread moment)
  message-living prio process thread moment = search (judged_living, answered_living)

pub served-lives : (config : Configuration) (user : ℕ) (held : List OwnItem) (part : Part) (process thread moment : ℕ) → IsSome (thread_of thread (row_at part.processes process))
    → has_ended_in (row_at (serve config user held part (Message process thread) moment).part.processes process) ≡ false
unfolding serve
served-lives config user held part process thread moment there =
    let prio = (limits_of config user).disconnect in
    alive (row_at (or_kept part (serve_message prio part process thread moment)).part.processes process) (ap (λ living. living process) (message-living part prio process thread moment).lives ∙ with_thread-lives (row_at part.processes process) thread there)

-- ---- what workers hold then

-- an item of another process goes
less-held : (first : OwnItem) (held less : List OwnItem) (number : ℕ) → (is_held held number ≡ true → is_held less number ≡ true) → is_held (first ∷ held) number ≡ true → is_held (first ∷ less) number ≡ true
less-held first held less number keeps is = by (process_of_item first == number) (is_held held number) (is_held less number) keeps is
  where
    by : (here before after : Bool) → (before ≡ true → after ≡ true) → (here || before) ≡ true → (here || after) ≡ true
    by true before after keeps is = refl
    by false before after keeps is = keeps is

other-held : (gone : OwnItem) (held : List OwnItem) (number : ℕ) → (process_of_item gone == number) ≡ false → is_held (gone ∷ held) number ≡ true → is_held held number ≡ true
other-held gone held number differs is = rw differs at is

pub still-held : (user worker : ℕ) (held : Held) (hands : List (Option Held)) (number : ℕ) → row_at hands worker ≡ Some held → number ≢ process_of_item held.item
    → is_held (own_held user hands) number ≡ true → is_held (own_held user (slice_set hands worker None)) number ≡ true
still-held user worker held [] number there differs is = is
still-held user zero held (None ∷ hands) number there differs is = is
still-held user zero held (Some taken ∷ hands) number there differs is =
    let same : taken ≡ held = cc in
    elim (cases_Bool (taken.user.0 == user)) [
      | inl own ↦
          let before : is_held (taken.item ∷ own_held user hands) number ≡ true = rw own at is in
          other-held taken.item (own_held user hands) number (rw same (differs_by number (process_of_item held.item) differs)) before
      | inr other ↦ rw other at is
    ]
still-held user (suc worker) held (None ∷ hands) number there differs is = still-held user worker held hands number there differs is
still-held user (suc worker) held (Some taken ∷ hands) number there differs is = elim (cases_Bool (taken.user.0 == user)) [
  | inl own ↦
      let before : is_held (taken.item ∷ own_held user hands) number ≡ true = rw own at is in
      rw own (less-held taken.item (own_held user hands) (own_held user (slice_set hands worker None)) number (still-held user worker held hands number there differs) before)
  | inr other ↦
      let before : is_held (own_held user hands) number ≡ true = rw other at is in
      rw other (still-held user worker held hands number there differs before)
]

-- ---- who is left

-- each process that has ended, but one, has a server connection, or workers hold an item of it
abbrev pub AreKept : ℕ → List OwnItem → List (Option Process) → Type 0
AreKept but held rows = (number : ℕ) (process : Process) → number ≢ but → row_at rows number ≡ Some process → has_ended process ≡ true → (has_server process || is_held held number) ≡ true

stays-so : (ended server held waiting : Bool) → (ended ≡ true → (server || held) ≡ true) → (not ended || (server || held || waiting)) ≡ true
stays-so false server held waiting kept = refl
stays-so true true held waiting kept = refl
stays-so true false true waiting kept = refl
stays-so true false false waiting kept = let clash : false ≡ true = kept refl in absurd (cc)

module _ (held : List OwnItem) (pipes : Pipes) where
  row-stays : (number : ℕ) (row : Option Process) → ((process : Process) → row ≡ Some process → has_ended process ≡ true → (has_server process || is_held held number) ≡ true) → row_left held pipes number row ≡ row
  row-stays number None kept = refl
  row-stays number (Some process) kept = rw (stays-so (has_ended process) (has_server process) (is_held held number) (has_waiting pipes number) (kept process refl)) refl

  -- from a number on, where the one stands so many places behind
  rest-left : (first : ℕ) (rows : List (Option Process)) → ((number : ℕ) (process : Process) → row_at rows number ≡ Some process → has_ended process ≡ true → (has_server process || is_held held (first + number)) ≡ true) → processes_left held pipes first rows ≡ rows
  rest-left first [] kept = refl
  rest-left first (row ∷ rows) kept =
      let zeroth : first + 0 ≡ first = omega arith in
      ap₂ (λ y ys. y ∷ ys) (row-stays first row (λ process is ended. ap (λ n. has_server process || is_held held n) (sym zeroth) ∙ kept 0 process is ended))
      (rest-left (first + 1) rows (λ number process is ended. let next : first + 1 + number ≡ first + suc number = omega arith in ap (λ n. has_server process || is_held held n) next ∙ kept (suc number) process is ended))

  one-left : (first but : ℕ) (rows : List (Option Process)) → ((number : ℕ) (process : Process) → number ≢ but → row_at rows number ≡ Some process → has_ended process ≡ true → (has_server process || is_held held (first + number)) ≡ true)
      → processes_left held pipes first rows ≡ slice_set rows but (row_left held pipes (first + but) (row_at rows but))
  one-left first but [] kept = refl
  one-left first zero (row ∷ rows) kept =
      let zeroth : first ≡ first + 0 = omega arith in
      ap₂ (λ y ys. y ∷ ys) (ap (λ n. row_left held pipes n row) zeroth)
      (rest-left (first + 1) rows (λ number process is ended. let next : first + 1 + number ≡ first + suc number = omega arith in ap (λ n. has_server process || is_held held n) next ∙ kept (suc number) process (λ e. let clash : suc number ≡ 0 = e in absurd (omega (arith, clash))) is ended))
  one-left first (suc but) (row ∷ rows) kept =
      let zeroth : first + 0 ≡ first = omega arith in
      let place : first + 1 + but ≡ first + suc but = omega arith in
      ap₂ (λ y ys. y ∷ ys)
      (row-stays first row (λ process is ended. ap (λ n. has_server process || is_held held n) (sym zeroth) ∙ kept 0 process (λ e. let clash : 0 ≡ suc but = e in absurd (omega (arith, clash))) is ended))
      (one-left (first + 1) but rows (λ number process differs is ended. let next : first + 1 + number ≡ first + suc number = omega arith in ap (λ n. has_server process || is_held held n) next ∙ kept (suc number) process (λ e. differs (omega (arith, e))) is ended)
      ∙ ap (λ n. slice_set rows but (row_left held pipes n (row_at rows but))) place)

pub one-left_alone : (held : List OwnItem) (pipes : Pipes) (but : ℕ) (rows : List (Option Process)) → AreKept but held rows → processes_left held pipes 0 rows ≡ slice_set rows but (row_left held pipes but (row_at rows but))
one-left_alone held pipes but rows kept =
    one-left held pipes 0 but rows (λ number process differs is ended. ap (λ n. has_server process || is_held held n) (zero-plus number) ∙ kept number process differs is ended)
    ∙ ap (λ n. slice_set rows but (row_left held pipes n (row_at rows but))) (zero-plus but)
  where
    zero-plus : (n : ℕ) → 0 + n ≡ n
    zero-plus n = omega arith

-- rows that are like those before are kept as these were
kept-by : (held more : List OwnItem) (number : ℕ) (row : Option Process) (process : Process) → Some (signs process) ≡ option_map signs row → has_ended process ≡ true
    → ((before : Process) → row ≡ Some before → has_ended before ≡ true → (has_server before || is_held held number) ≡ true) → (is_held held number ≡ true → is_held more number ≡ true) → (has_server process || is_held more number) ≡ true
kept-by held more number None process is ended kept keeps = absurd (cc)
kept-by held more number (Some before) process is ended kept keeps =
    let same : signs process ≡ signs before = same_Some (signs process) (signs before) is in
    let ends : has_ended before ≡ true = sym (ap (λ pair. pair.0) same) ∙ ended in
    by (has_server before) (has_server process) (is_held held number) (is_held more number) (ap (λ pair. pair.1) same) (kept before refl ends) keeps
  where
    by : (one other held more : Bool) → other ≡ one → (one || held) ≡ true → (held ≡ true → more ≡ true) → (other || more) ≡ true
    by true other held more same kept keeps = rw same refl
    by false other held more same kept keeps = rw (same, keeps kept) refl

pub like-kept : (but : ℕ) (held more : List OwnItem) (before after : List (Option Process)) → AreLike but before after
    → ((number : ℕ) (process : Process) → row_at before number ≡ Some process → has_ended process ≡ true → (has_server process || is_held held number) ≡ true)
    → ((number : ℕ) → number ≢ but → is_held held number ≡ true → is_held more number ≡ true) → AreKept but more after
like-kept but held more before after like kept keeps number process differs is ended =
    kept-by held more number (row_at before number) process (sym (ap (option_map signs) is) ∙ like number differs) ended (λ old there. kept number old there) (keeps number differs)
