-- What is printed of a call is a line that makes this call, and what a line asks for can be said.
use Rattle.std.proofs.Common.{◌≡◌, ℕ, zero, suc, true, List, [], ◌∷◌, Option, Some, None, arith}
use Rattle.std.specs.Prelude.{replicate, unwrap_or}
use Rattle.std.specs.List.{list_all}
use Rattle.qx_types.specs.Configuration.{Configuration, IsConfiguration}
use Rattle.qx_types.specs.declared.names.Thread.{Thread}
use Rattle.qx_types.specs.declared.request.Request.{Request}
use Rattle.qx_types.specs.declared.request.Request.TheVariants.{OpenPath, StatPath, Unlink, Mkdir, Rename, Read, Write, Close, Dup, Seek, Fstat, List as ListNames, Chmod, Notify, Notify64, Raw}
use Rattle.qx_calls.specs.inner.Calls.{CanSayCall}
use Rattle.qx_calls.specs.Calls.{call_in_line, call_over_of, call_said, chmod_line, close_line, dup_line, fstat_line, lines_at_path, lines_over, list_line, mkdir_line, name_given, notify_64_line, notify_line, open_line, raw_line, read_line, rename_line, seek_line, stat_line, unlink_line, write_line}
use Rattle.qx_calls.specs.Forms.{CanBeSaid, CanBeWords, at_most, words_for}
use Rattle.qx_words.specs.Kinds.{AHexByte, APath, SomeBytes, CanName, is_word}
use Rattle.qx_calls.proofs.ReadForms.{Makes, line_again, one_of_within}

-- a call's line is read as that call
pub call_again : (config : Configuration) (thread : Thread) (request : Request) → IsConfiguration config.users config.workers → CanBeSaid config.users (call_said thread request)
    → call_in_line config.users (call_said thread request).name (words_for (call_said thread request).form config (call_said thread request).values) ≡ Some (thread, request)
unfolding call_in_line call_over_of
call_again config thread (OpenPath flags mode path) valid can = line_again open_line config (thread, (path, (flags, (mode, tt)))) valid can
call_again config thread (StatPath path) valid can = line_again stat_line config (thread, (path, tt)) valid can
call_again config thread (Unlink path) valid can = line_again unlink_line config (thread, (path, tt)) valid can
call_again config thread (Mkdir mode path) valid can = line_again mkdir_line config (thread, (path, (mode, tt))) valid can
call_again config thread (Rename from to) valid can = line_again rename_line config (thread, (from, (to, tt))) valid can
call_again config thread (Read coid count) valid can = line_again read_line config (thread, (coid.0, (count, tt))) valid can
call_again config thread (Write coid bytes) valid can = line_again write_line config (thread, (coid.0, (bytes, tt))) valid can
call_again config thread (Close coid) valid can = line_again close_line config (thread, (coid.0, tt)) valid can
call_again config thread (Dup coid) valid can = line_again dup_line config (thread, (coid.0, tt)) valid can
call_again config thread (Seek coid whence offset) valid can = line_again seek_line config (thread, (coid.0, (whence, (offset, tt)))) valid can
call_again config thread (Fstat coid) valid can = line_again fstat_line config (thread, (coid.0, tt)) valid can
call_again config thread (ListNames coid []) valid can = line_again list_line config (thread, (coid.0, None)) valid can
call_again config thread (ListNames coid (byte ∷ bytes)) valid can = line_again list_line config (thread, (coid.0, Some (byte ∷ bytes))) valid can
call_again config thread (Chmod coid mode) valid can = line_again chmod_line config (thread, (coid.0, (mode, tt))) valid can
call_again config thread (Notify coid action conditions code value) valid can = line_again notify_line config (thread, (coid.0, (action, (conditions, (code, (value, tt)))))) valid can
call_again config thread (Notify64 coid action conditions code value) valid can = line_again notify_64_line config (thread, (coid.0, (action, (conditions, (code, (value, tt)))))) valid can
call_again config thread (Raw coid bytes) valid can = line_again raw_line config (thread, (coid.0, (bytes, tt))) valid can

-- so many times one byte are bytes
filled : (users : List (List ℕ)) (count byte : ℕ) → CanName AHexByte users byte → CanName SomeBytes users (replicate count byte)
filled users zero byte few i = omega arith
filled users (suc count) byte few zero = omega (arith, few)
filled users (suc count) byte few (suc i) = filled users count byte few i

-- the empty name stands for none
names_after : (users : List (List ℕ)) (after : Option (List ℕ)) → CanBeWords (at_most APath) users after → CanBeWords (at_most APath) users (name_given (unwrap_or after []))
names_after users None can = tt
names_after users (Some []) can = tt
names_after users (Some (byte ∷ bytes)) can = can

infixr 10 ◌and◌
◌and◌ : {A B : Type 0} → A → B → A × B
first and rest = (first, rest)

-- what a line asks for is said by the same words, but for those two
at_path_make : (users : List (List ℕ)) → Makes users (CanSayCall users) lines_at_path
at_path_make users =
    (λ values can. (can.0, can))
    and (λ values can. (can.0, can))
    and (λ values can. (can.0, can))
    and (λ values can. (can.0, can))
    and (λ values can. (can.0, can))
    and tt

over_make : (users : List (List ℕ)) → Makes users (CanSayCall users) lines_over
over_make users =
    (λ values can. (can.0, can))
    and (λ values can. (can.0, can))
    and (λ values can. (can.0, (can.0, (can.1.0, (filled users values.1.1.0 values.1.1.1.0 can.1.1.1.0, tt)))))
    and (λ values can. (can.0, can))
    and (λ values can. (can.0, can))
    and (λ values can. (can.0, can))
    and (λ values can. (can.0, can))
    and (λ values can. (can.0, (can.0, (can.1.0, names_after users values.1.1 can.1.1))))
    and (λ values can. (can.0, can))
    and (λ values can. (can.0, can))
    and (λ values can. (can.0, can))
    and (λ values can. (can.0, can))
    and tt

call_over_within : (users : List (List ℕ)) (name : List ℕ) (words : List (List ℕ)) (call : Thread × Request) → list_all is_word words ≡ true
    → call_over_of users name words ≡ Some call → CanSayCall users call
unfolding call_over_of
call_over_within users name words call all is = one_of_within (CanSayCall users) lines_over None users name words call all (over_make users) (λ none. cc) is

pub call_within : (users : List (List ℕ)) (name : List ℕ) (words : List (List ℕ)) (call : Thread × Request) → list_all is_word words ≡ true
    → call_in_line users name words ≡ Some call → CanSayCall users call
unfolding call_in_line
call_within users name words call all is =
    one_of_within (CanSayCall users) lines_at_path (call_over_of users name words) users name words call all (at_path_make users)
    (call_over_within users name words call all) is
