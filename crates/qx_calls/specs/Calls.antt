-- The lines of a script that call, each described once.
use Rattle.std.specs.Prelude.{ℕ, List, [], ◌∷◌, Option, Some, None, codes, replicate, unwrap_or}
use Rattle.qx_types.specs.Configuration.{Configuration}
use Rattle.qx_types.specs.declared.names.Coid.{Coid}
use Rattle.qx_types.specs.declared.names.Thread.{Thread}
use Rattle.qx_types.specs.declared.request.Request.{Request}
use Rattle.qx_types.specs.declared.request.Request.TheVariants.{OpenPath, StatPath, Unlink, Mkdir, Rename, Read, Write, Close, Dup, Seek, Fstat, List as ListNames, Chmod, Notify, Notify64, Raw}
use Rattle.qx_calls.specs.Forms.{◌then◌, at_most, end, Form, Line, Maker, Saying, by, line_text, made_into, read_one_of}
use Rattle.qx_words.specs.Kinds.{AThread, AByte, ATwoByteNumber, AFourByteNumber, AnEightByteNumber, AnOffset, APath, SomeFlags, AMode, SomeBytes, AHexByte, AWhence, AnAction, SomeConditions}

-- a line of a thread, and of the words that a request is made of
abbrev pub call_line : List ℕ → (form : Form) → Maker form Request → Line (Thread × Request)
call_line name form request =
    record { name = name; form = AThread then form; made = λ thread. made_into form (λ request. (thread, request)) request }

-- a connection of that number
abbrev pub connection_numbered : ℕ → Coid
connection_numbered number = record { 0 = number }

-- a call's line whose request goes over a connection
abbrev pub line_over : List ℕ → (form : Form) → (Coid → Maker form Request) → Line (Thread × Request)
line_over name form request = call_line name (AByte then form) (λ number. request (connection_numbered number))

abbrev pub open_line : Line (Thread × Request)
open_line = call_line (codes "open") (APath then SomeFlags then AMode then end) (λ path flags mode. OpenPath flags mode path)

abbrev pub stat_line : Line (Thread × Request)
stat_line = call_line (codes "stat") (APath then end) StatPath

abbrev pub unlink_line : Line (Thread × Request)
unlink_line = call_line (codes "unlink") (APath then end) Unlink

abbrev pub mkdir_line : Line (Thread × Request)
mkdir_line = call_line (codes "mkdir") (APath then AMode then end) (λ path mode. Mkdir mode path)

abbrev pub rename_line : Line (Thread × Request)
rename_line = call_line (codes "rename") (APath then APath then end) Rename

abbrev pub read_line : Line (Thread × Request)
read_line = line_over (codes "read") (AFourByteNumber then end) Read

abbrev pub write_line : Line (Thread × Request)
write_line = line_over (codes "write") (SomeBytes then end) Write

-- a write of so many times one byte
abbrev pub fill_line : Line (Thread × Request)
fill_line = line_over (codes "fill") (ATwoByteNumber then AHexByte then end) (λ coid count byte. Write coid (replicate count byte))

abbrev pub close_line : Line (Thread × Request)
close_line = line_over (codes "close") end Close

abbrev pub dup_line : Line (Thread × Request)
dup_line = line_over (codes "dup") end Dup

abbrev pub seek_line : Line (Thread × Request)
seek_line = line_over (codes "seek") (AWhence then AnOffset then end) Seek

abbrev pub fstat_line : Line (Thread × Request)
fstat_line = line_over (codes "fstat") end Fstat

-- the names behind one, or the first ones
abbrev pub list_line : Line (Thread × Request)
list_line = line_over (codes "list") (at_most APath) (λ coid after. ListNames coid (unwrap_or after []))

abbrev pub chmod_line : Line (Thread × Request)
chmod_line = line_over (codes "chmod") (AMode then end) Chmod

abbrev pub notify_line : Line (Thread × Request)
notify_line = line_over (codes "notify") (AnAction then SomeConditions then AByte then AFourByteNumber then end) Notify

abbrev pub notify_64_line : Line (Thread × Request)
notify_64_line = line_over (codes "notify64") (AnAction then SomeConditions then AByte then AnEightByteNumber then end) Notify64

abbrev pub raw_line : Line (Thread × Request)
raw_line = line_over (codes "raw") (SomeBytes then end) Raw

abbrev pub lines_at_path : List (Line (Thread × Request))
lines_at_path = open_line ∷ stat_line ∷ unlink_line ∷ mkdir_line ∷ rename_line ∷ []

abbrev pub lines_over : List (Line (Thread × Request))
lines_over =
    read_line ∷ write_line ∷ fill_line ∷ close_line ∷ dup_line ∷ seek_line ∷ fstat_line ∷ list_line ∷ chmod_line ∷ notify_line ∷ notify_64_line ∷ raw_line ∷ []

-- a call over a connection, by the first word of its line and the others
unfoldable pub call_over_of : List (List ℕ) → List ℕ → List (List ℕ) → Option (Thread × Request)
call_over_of users name words = read_one_of lines_over None users name words

-- a call, by the first word of its line and the others
unfoldable pub call_in_line : List (List ℕ) → List ℕ → List (List ℕ) → Option (Thread × Request)
call_in_line users name words = read_one_of lines_at_path (call_over_of users name words) users name words

-- no word for the empty name
abbrev pub name_given : List ℕ → Option (List ℕ)
name_given [] = None
name_given (byte ∷ bytes) = Some (byte ∷ bytes)

-- the line that makes the call; of the two that write, the one that has the bytes
abbrev pub call_said : Thread → Request → Saying
call_said thread (OpenPath flags mode path) = by open_line (thread, (path, (flags, (mode, tt))))
call_said thread (StatPath path) = by stat_line (thread, (path, tt))
call_said thread (Unlink path) = by unlink_line (thread, (path, tt))
call_said thread (Mkdir mode path) = by mkdir_line (thread, (path, (mode, tt)))
call_said thread (Rename from to) = by rename_line (thread, (from, (to, tt)))
call_said thread (Read coid count) = by read_line (thread, (coid.0, (count, tt)))
call_said thread (Write coid bytes) = by write_line (thread, (coid.0, (bytes, tt)))
call_said thread (Close coid) = by close_line (thread, (coid.0, tt))
call_said thread (Dup coid) = by dup_line (thread, (coid.0, tt))
call_said thread (Seek coid whence offset) = by seek_line (thread, (coid.0, (whence, (offset, tt))))
call_said thread (Fstat coid) = by fstat_line (thread, (coid.0, tt))
call_said thread (ListNames coid after) = by list_line (thread, (coid.0, name_given after))
call_said thread (Chmod coid mode) = by chmod_line (thread, (coid.0, (mode, tt)))
call_said thread (Notify coid action conditions code value) = by notify_line (thread, (coid.0, (action, (conditions, (code, (value, tt))))))
call_said thread (Notify64 coid action conditions code value) = by notify_64_line (thread, (coid.0, (action, (conditions, (code, (value, tt))))))
call_said thread (Raw coid bytes) = by raw_line (thread, (coid.0, (bytes, tt)))

-- the call as its line
unfoldable pub call_text : Configuration → Thread → Request → List ℕ
call_text config thread request = line_text config (call_said thread request)
