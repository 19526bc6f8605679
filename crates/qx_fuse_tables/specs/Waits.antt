-- The requests of one user whose calls have no answer yet, and the thread that a further one may take.
use Rattle.std.specs.Prelude.{◌≡◌, ℕ, ◌+◌, ◌≤◌, ◌==◌, ◌&&◌, Bool, not, nat_eq, nat_lt, List, [], ◌∷◌, ◌++◌, Option, Some, None, if◌then◌else◌, count_by, find, is_some, length, position, remove, slice_get}
use Rattle.std.specs.List.{IsDistinct, list_any}
use Rattle.qx_fuse_tables.specs.declared.waits.Wait.{Wait}
use Rattle.qx_fuse_tables.specs.declared.waits.Wait.TheVariants.{Read, Write, Never}
use Rattle.qx_fuse_tables.specs.declared.waits.Waiting.{Waiting}

-- ---- one item out of many

-- that of a place, if one is given
abbrev pub item_at : {A : Type 0} → List A → Option ℕ → Option A
item_at items None = None
item_at items (Some place) = slice_get items place

abbrev pub without_at : {A : Type 0} → List A → Option ℕ → List A
without_at items None = items
without_at items (Some place) = if nat_lt place (length items) then remove items place else items

-- ---- requests that wait

abbrev pub WaitingList : Type 0
WaitingList = List Waiting

abbrev pub is_of : ℕ → ℕ → Waiting → Bool
is_of process tid one = (one.process == process) && (one.tid == tid)

abbrev pub of_request : WaitingList → ℕ → Option Waiting
of_request waits unique = find (λ one. one.unique == unique) waits

abbrev pub of_thread : WaitingList → ℕ → ℕ → Option Waiting
of_thread waits process tid = find (λ one. is_of process tid one) waits

abbrev pub is_busy : WaitingList → ℕ → ℕ → Bool
is_busy waits process tid = list_any (λ one. is_of process tid one) waits

abbrev pub place_of : WaitingList → ℕ → Option ℕ
place_of waits unique = position (λ one. one.unique == unique) waits

-- ---- threads (this profile)

-- how many threads of its process stay free when a request takes one: behind a read those for writes, and behind a write and a read
-- one more for what never waits. So a write can end the wait of a read, and a release waits for neither
abbrev pub kept : Wait → ℕ → ℕ
kept Read writers = writers + 1
kept Write writers = 1
kept Never writers = 0

abbrev pub is_free : WaitingList → ℕ → ℕ → Bool
is_free waits process tid = not (is_busy waits process tid)

abbrev pub free_count : List ℕ → WaitingList → ℕ → ℕ
free_count tids waits process = count_by (λ tid. is_free waits process tid) tids

abbrev pub first_free : List ℕ → WaitingList → ℕ → Option ℕ
first_free tids waits process = find (λ tid. is_free waits process tid) tids

-- the thread of a process that a request takes, out of those that each process has; none if too few would stay free
abbrev pub thread_for : List ℕ → ℕ → WaitingList → ℕ → Wait → Option ℕ
thread_for tids writers waits process wait = if nat_lt (kept wait writers) (free_count tids waits process) then first_free tids waits process else None

-- the first of some processes that has a thread for a request
abbrev pub process_for : List ℕ → List ℕ → ℕ → WaitingList → Wait → Option ℕ
process_for processes tids writers waits wait = find (λ process. is_some (thread_for tids writers waits process wait)) processes

-- ---- a law

-- a request that waits for the thread that it takes leaves as many free as it has to
abbrev pub ThreadsKept : Type 0
ThreadsKept =
    (tids : List ℕ) (writers : ℕ) (waits : WaitingList) (one : Waiting) → IsDistinct nat_eq tids → thread_for tids writers waits one.process one.wait ≡ Some one.tid
    → kept one.wait writers ≤ free_count tids (waits ++ one ∷ []) one.process
