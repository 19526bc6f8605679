-- Files, pipes and devices have what the kinds and sizes of their inodes say and no more bytes than they may, and nobody waits in a pipe or a device who could be served, whatever happens.
use Rattle.std.proofs.Common.{◌≡◌, ◌≢◌, inl, inr, ℕ, ◌<◌, ◌≤◌, true, false, List, [], length, refl, sym, ap, ◌∙◌, subst, arith, ◌⊎◌, zero, suc, ◌∷◌}
use Rattle.std.specs.Prelude.{Option, Some, None, option_map, slice_set}
use Rattle.std.specs.List.{list_any}
use Rattle.std.proofs.lemmas.Bool.{cases_eq, cond_both}
use Rattle.qx_devices.specs.declared.Device.{Device}
use Rattle.qx_types.specs.UserLimits.{UserLimits}
use Rattle.qx_machine.specs.declared.rows.Attribute.{Attribute}
use Rattle.qx_machine.specs.declared.rows.Kind.{Kind}
use Rattle.qx_machine.specs.declared.rows.WaitingCall.{WaitingCall}
use Rattle.qx_machine.specs.Clients.{with_abandoned}
use Rattle.qx_machine.specs.Defaults.{is_own, without_block, without_unused}
use Rattle.qx_machine.specs.Inodes.{new_attribute}
use Rattle.qx_machine.specs.Names.{Names, has_calls, under}
use Rattle.qx_machine.specs.PipeManager.{filled}
use Rattle.qx_machine.specs.Pipes.{PipeAfter, pipe_of, Pipe, settle}
use Rattle.qx_machine.specs.Resources.{Resources, resized, with_empty, without_content}
use Rattle.qx_isolation.specs.Rows.{put_row, row_at, with_row}
use Rattle.qx_machine.specs.Waiting.{is_written, offered}
use Rattle.qx_isolation.proofs.Places.{row_at-set_other, row_at-set_cases}
use Rattle.qx_invariants.specs.Changes.{Abandons, ResourceChange, Closes, Comes, Fills, IsOwnInode, MayHappen, Mounts, Touches, Unlinks, Writes, with_change, without_link, with_changed, with_unlinked, with_named, IsPipeSettled, IsShort}
use Rattle.qx_invariants.specs.Holds.{HasContents, HasRoom, calls_of, file_of, in_inode, HasLimits, HasSettledPipes}
use Rattle.qx_attr.proofs.CountLemmas.{within_table}
use Rattle.qx_iofunc.proofs.PlaceLemmas.{put_at, row-freed, set_at}
use Rattle.qx_invariants.proofs.Calls.{abandoned_rests}
use Rattle.qx_invariants.proofs.Rooms.{few_inodes}
use Rattle.qx_invariants.proofs.Rows.{IsNew, abandoned-at, freed, mapped-was, inode_is_new, put_other, unused_cases, with_row-at, with_row-other, filled-kind, content_cases, empty_cases}
use Rattle.std.proofs.lemmas.List.Sums.{sum_by-cons}
use Rattle.std.proofs.lemmas.Option.{same_Some}
use Rattle.qx_machine.specs.Files.{Files, size_of, total_size}
use Rattle.qx_machine.specs.declared.rows.Kind.TheVariants as kind

-- what is in an inode, and what its kind and size tell of it
module _ {A B : Type 0} (content : Kind → ℕ → Option B) (seen : A → B) where
  abbrev Fit : List (Option A) → List (Option Attribute) → Type 0
  Fit rows attributes = (inode : ℕ) → option_map seen (row_at rows inode) ≡ in_inode content (row_at attributes inode)

  -- one row changes, and one attribute
  one_fits : (rows now : List (Option A)) (attributes after : List (Option Attribute)) (inode : ℕ) → ((m : ℕ) → m ≢ inode → row_at now m ≡ row_at rows m) → ((m : ℕ) → m ≢ inode → row_at after m ≡ row_at attributes m)
      → option_map seen (row_at now inode) ≡ in_inode content (row_at after inode) → Fit rows attributes → Fit now after
  one_fits rows now attributes after inode same alike at fit m = elim (cases_eq m inode) [
    | inl is ↦ subst (λ n. option_map seen (row_at now n) ≡ in_inode content (row_at after n)) (sym is) at
    | inr apart ↦ ap (option_map seen) (same m apart) ∙ (fit m ∙ ap (in_inode content) (sym (alike m apart)))
  ]

  -- where nothing is told, nothing is
  pub none_fits : (row : Option A) → option_map seen row ≡ None → row ≡ None
  none_fits None is = refl
  none_fits (Some value) is = absurd (cc)

  module _ (rows : List (Option A)) (attributes : List (Option Attribute)) (fit : Fit rows attributes) where
    -- what is there is told
    there_told : (inode : ℕ) (value : A) → row_at rows inode ≡ Some value → (a : Attribute) → row_at attributes inode ≡ Some a → content a.kind a.size ≡ Some (seen value)
    there_told inode value there a is = sym (ap (in_inode content) is) ∙ (sym (fit inode) ∙ ap (option_map seen) there)

    -- an attribute changes that tells the same
    resized_fits : (inode : ℕ) (change : Attribute → Attribute) → ((a : Attribute) → row_at attributes inode ≡ Some a → content (change a).kind (change a).size ≡ content a.kind a.size) → Fit rows (with_row attributes inode change)
    resized_fits inode change same =
        one_fits rows rows attributes (with_row attributes inode change) inode (λ m apart. refl) (with_row-other attributes inode change)
        (by (row_at attributes inode) refl ∙ ap (in_inode content) (sym (with_row-at attributes inode change))) fit
      where
        by : (row : Option Attribute) → row_at attributes inode ≡ row → option_map seen (row_at rows inode) ≡ in_inode content (option_map change (row_at attributes inode))
        by None is = rw is (fit inode ∙ ap (in_inode content) is)
        by (Some a) is = fit inode ∙ (ap (in_inode content) is ∙ (sym (same a is) ∙ ap (λ row. in_inode content (option_map change row)) (sym is)))

    -- a row changes, and the attribute with it
    filled_fits : (inode : ℕ) (was value : A) (change : Attribute → Attribute) → row_at rows inode ≡ Some was → ((a : Attribute) → content a.kind a.size ≡ Some (seen was) → content (change a).kind (change a).size ≡ Some (seen value))
        → Fit (slice_set rows inode (Some value)) (with_row attributes inode change)
    filled_fits inode was value change there same =
        one_fits rows (slice_set rows inode (Some value)) attributes (with_row attributes inode change) inode (λ m apart. row_at-set_other rows inode m (Some value) apart) (with_row-other attributes inode change)
        (ap (option_map seen) (set_at rows inode value (within_table rows inode was there)) ∙ (sym (by (row_at attributes inode) (sym (fit inode) ∙ ap (option_map seen) there)) ∙ ap (in_inode content) (sym (with_row-at attributes inode change)))) fit
      where
        by : (row : Option Attribute) → in_inode content row ≡ Some (seen was) → in_inode content (option_map change row) ≡ Some (seen value)
        by None told = absurd (cc)
        by (Some a) told = same a told

    -- where nothing was, an attribute comes
    put_fits : (inode : ℕ) (attribute : Attribute) → row_at attributes inode ≡ None → inode ≤ length attributes → content attribute.kind attribute.size ≡ None → Fit rows (put_row attributes inode attribute)
    put_fits inode attribute free within none =
        one_fits rows rows attributes (put_row attributes inode attribute) inode (λ m apart. refl) (put_other attributes inode attribute within)
        (fit inode ∙ (ap (in_inode content) free ∙ (sym none ∙ ap (in_inode content) (sym (put_at attributes inode attribute within))))) fit

    -- and what is in it
    made_fits : (inode : ℕ) (attribute : Attribute) (value : A) → inode ≤ length attributes → inode < length rows → content attribute.kind attribute.size ≡ Some (seen value) → Fit (slice_set rows inode (Some value)) (put_row attributes inode attribute)
    made_fits inode attribute value within inside told =
        one_fits rows (slice_set rows inode (Some value)) attributes (put_row attributes inode attribute) inode (λ m apart. row_at-set_other rows inode m (Some value) apart) (put_other attributes inode attribute within)
        (ap (option_map seen) (set_at rows inode value inside) ∙ (sym told ∙ ap (in_inode content) (sym (put_at attributes inode attribute within)))) fit

    -- an attribute goes that tells nothing
    gone_fits : (inode : ℕ) → in_inode content (row_at attributes inode) ≡ None → Fit rows (slice_set attributes inode None)
    gone_fits inode none =
        one_fits rows rows attributes (slice_set attributes inode None) inode (λ m apart. refl) (λ m apart. row_at-set_other attributes inode m None apart)
        (fit inode ∙ (none ∙ ap (in_inode content) (sym (row-freed attributes inode)))) fit

    -- and what was in it
    emptied_fits : (inode : ℕ) → Fit (slice_set rows inode None) (slice_set attributes inode None)
    emptied_fits inode =
        one_fits rows (slice_set rows inode None) attributes (slice_set attributes inode None) inode (λ m apart. row_at-set_other rows inode m None apart) (λ m apart. row_at-set_other attributes inode m None apart)
        (ap (option_map seen) (row-freed rows inode) ∙ ap (in_inode content) (sym (row-freed attributes inode))) fit

-- ---- kinds

-- what is a file is no pipe and no device, and the other way round
file_alone : (k : Kind) (size found other : ℕ) → file_of k size ≡ Some found → calls_of k other ≡ None
file_alone kind.File size found other is = refl
file_alone _ size found other is = absurd (cc)

calls_alone : (k : Kind) (size : ℕ) (found : Option Device × ℕ) (other : ℕ) → calls_of k size ≡ Some found → file_of k other ≡ None
calls_alone kind.Pipe size found other is = refl
calls_alone (kind.Device device) size found other is = refl
calls_alone _ size found other is = absurd (cc)

-- a manager's own inodes are of no other manager's kind
own_file : (k : Kind) (size : ℕ) → is_own kind.File k ≡ true → calls_of k size ≡ None
own_file kind.File size is = refl
own_file kind.Directory size is = refl
own_file _ size is = absurd (cc)

own_calls : (own k : Kind) (size : ℕ) → has_calls own ≡ true → is_own own k ≡ true → file_of k size ≡ None
own_calls kind.Pipe kind.File size has is = absurd (cc)
own_calls (kind.Device device) kind.File size has is = absurd (cc)
own_calls own kind.Directory size has is = refl
own_calls own kind.Pipe size has is = refl
own_calls own (kind.Device device) size has is = refl
own_calls kind.File k size has is = absurd (cc)
own_calls kind.Directory k size has is = absurd (cc)

own_directory : (k : Kind) → is_own kind.Directory k ≡ true → k ≡ kind.Directory
own_directory kind.Directory is = refl
own_directory _ is = absurd (cc)

-- of another size it is a file still
file_resized : (k : Kind) (size found other : ℕ) → file_of k size ≡ Some found → file_of k other ≡ Some other
file_resized kind.File size found other is = refl
file_resized _ size found other is = absurd (cc)

-- and a pipe still, or that device
calls_resized : (k : Kind) (size : ℕ) (device : Option Device) (found other : ℕ) → calls_of k size ≡ Some (device, found) → calls_of k other ≡ Some (device, other)
calls_resized kind.Pipe size device found other is = ap (λ (given : Option Device × ℕ). Some (given.0, other)) (same_Some _ _ is)
calls_resized (kind.Device own) size device found other is = ap (λ (given : Option Device × ℕ). Some (given.0, other)) (same_Some _ _ is)
calls_resized _ size device found other is = absurd (cc)

calls_wait : (k : Kind) (size : ℕ) (found : Option Device × ℕ) → calls_of k size ≡ Some found → has_calls k ≡ true
calls_wait kind.Pipe size found is = refl
calls_wait (kind.Device device) size found is = refl
calls_wait _ size found is = absurd (cc)

filled-size : (moment : ℕ) (after : PipeAfter WaitingCall) (a : Attribute) → has_calls a.kind ≡ true → (filled moment after a).size ≡ length after.pipe.bytes
filled-size moment after a is = rw is (cond_both (list_any (λ answer. is_written (offered answer.0) answer.1) after.answers) _ _ (λ (now : Attribute). now.size ≡ length after.pipe.bytes) (λ is. refl) (λ is. refl))

-- by whose rules calls wait there, and how many bytes stand
abbrev of_calls : Pipe WaitingCall → Option Device × ℕ
of_calls pipe = (pipe.device, length pipe.bytes)

-- the same as a process ends
same_calls : (process : ℕ) (row : Option (Pipe WaitingCall)) → option_map of_calls (option_map (with_abandoned process) row) ≡ option_map of_calls row
same_calls process None = refl
same_calls process (Some pipe) = refl

-- ---- what happens

module _ (r : Resources) (h : HasContents r) where
  -- no call waits in a manager's own inode that is no pipe and no device
  no_calls : (own : Kind) (inode : ℕ) → IsOwnInode own r inode → has_calls own ≡ false → in_inode calls_of (row_at r.inodes.attributes inode) ≡ None
  no_calls own inode owned none = ap (in_inode calls_of) owned.there ∙ by own none owned.owned
    where
      by : (own : Kind) → has_calls own ≡ false → is_own own owned.attribute.kind ≡ true → calls_of owned.attribute.kind owned.attribute.size ≡ None
      by kind.File none is = own_file owned.attribute.kind owned.attribute.size is
      by kind.Directory none is = ap (λ k. calls_of k owned.attribute.size) (own_directory owned.attribute.kind is)
      by kind.Pipe none is = absurd (cc)
      by (kind.Device device) none is = absurd (cc)

  pub no_pipe : (own : Kind) (inode : ℕ) → IsOwnInode own r inode → has_calls own ≡ false → row_at r.pipes inode ≡ None
  no_pipe own inode owned none = none_fits calls_of of_calls (row_at r.pipes inode) (h.pipes inode ∙ no_calls own inode owned none)

  unused_contents : (own : Kind) (inode : ℕ) → IsOwnInode own r inode → HasContents (without_unused own inode r)
  unused_contents own inode owned = unused_cases HasContents own inode r (λ gone. by own owned) (λ stays. h)
    where
      calls_go : (own : Kind) → has_calls own ≡ true → IsOwnInode own r inode → HasContents (record (freed inode r) { pipes = slice_set r.pipes inode None })
      calls_go own has owned = record {
        files = gone_fits file_of _ r.files r.inodes.attributes h.files inode (ap (in_inode file_of) owned.there ∙ own_calls own owned.attribute.kind owned.attribute.size has owned.owned);
        pipes = emptied_fits calls_of of_calls r.pipes r.inodes.attributes h.pipes inode;
      }

      by : (own : Kind) → IsOwnInode own r inode → HasContents (without_content own inode (freed inode r))
      by kind.File owned = record {
        files = emptied_fits file_of _ r.files r.inodes.attributes h.files inode;
        pipes = gone_fits calls_of of_calls r.pipes r.inodes.attributes h.pipes inode (no_calls kind.File inode owned refl);
      }
      by kind.Pipe owned = calls_go kind.Pipe refl owned
      by (kind.Device device) owned = calls_go (kind.Device device) refl owned
      by kind.Directory owned = record {
        files = gone_fits file_of _ r.files r.inodes.attributes h.files inode (ap (in_inode file_of) owned.there ∙ ap (λ k. file_of k owned.attribute.size) (own_directory owned.attribute.kind owned.owned));
        pipes = gone_fits calls_of of_calls r.pipes r.inodes.attributes h.pipes inode (no_calls kind.Directory inode owned refl);
      }

  module _ (room : HasRoom r) where
    come_contents : (which : Kind) (mode moment inode : ℕ) → IsNew r.inodes.attributes r.inodes.most_inodes inode → (names : Names) → HasContents (with_empty which inode (record r { inodes = record r.inodes { attributes = put_row r.inodes.attributes inode (new_attribute which mode r.user moment) }; names = names }))
    come_contents kind.File mode moment inode new names = record {
      files = made_fits file_of _ r.files r.inodes.attributes h.files inode _ [] new.within (let most = new.most_is in let few = few_inodes r room in let long = room.files in omega (arith, most, few, long)) refl;
      pipes = put_fits calls_of of_calls r.pipes r.inodes.attributes h.pipes inode _ new.free new.within refl;
    }
    come_contents kind.Pipe mode moment inode new names = record {
      files = put_fits file_of _ r.files r.inodes.attributes h.files inode _ new.free new.within refl;
      pipes = made_fits calls_of of_calls r.pipes r.inodes.attributes h.pipes inode _ (pipe_of None [] [] []) new.within (let most = new.most_is in let few = few_inodes r room in let long = room.pipes in omega (arith, most, few, long)) refl;
    }
    come_contents (kind.Device device) mode moment inode new names = record {
      files = put_fits file_of _ r.files r.inodes.attributes h.files inode _ new.free new.within refl;
      pipes = made_fits calls_of of_calls r.pipes r.inodes.attributes h.pipes inode _ (pipe_of (Some device) [] [] []) new.within (let most = new.most_is in let few = few_inodes r room in let long = room.pipes in omega (arith, most, few, long)) refl;
    }
    come_contents kind.Directory mode moment inode new names = record {
      files = put_fits file_of _ r.files r.inodes.attributes h.files inode _ new.free new.within refl;
      pipes = put_fits calls_of of_calls r.pipes r.inodes.attributes h.pipes inode _ new.free new.within refl;
    }

  -- an attribute changes, and not its kind and size
  same_contents : (inode : ℕ) (change : Attribute → Attribute) → ((a : Attribute) → ((change a).kind ≡ a.kind) × ((change a).size ≡ a.size)) → HasContents (with_changed inode change r)
  same_contents inode change same = record {
    files = resized_fits file_of _ r.files r.inodes.attributes h.files inode change (λ a is. λ i. file_of ((same a).0 i) ((same a).1 i));
    pipes = resized_fits calls_of of_calls r.pipes r.inodes.attributes h.pipes inode change (λ a is. λ i. calls_of ((same a).0 i) ((same a).1 i));
  }

pub contents-keep : (change : ResourceChange) (r : Resources) → MayHappen change r → HasRoom r → HasContents r → HasContents (with_change change r)
contents-keep (Mounts mount) r may room h =
    let new = inode_is_new r.inodes mount.root room.some_inodes may.0 in
    record {
      files = put_fits file_of _ r.files r.inodes.attributes h.files mount.root _ new.free new.within refl;
      pipes = put_fits calls_of of_calls r.pipes r.inodes.attributes h.pipes mount.root _ new.free new.within refl;
    }
contents-keep (Comes inode directory name which mode moment) r may room h = come_contents r h room which mode moment inode (inode_is_new r.inodes inode room.some_inodes may.0) _
contents-keep (Touches inode mode mtime ctime) r may room h = same_contents r h inode _ (λ a. (refl, refl))
contents-keep (Writes inode moment bytes) r may room h = record {
  files = filled_fits file_of _ r.files r.inodes.attributes h.files inode may.was bytes (resized (length bytes) moment) may.there (λ a told. file_resized a.kind a.size _ (length bytes) told);
  pipes = resized_fits calls_of of_calls r.pipes r.inodes.attributes h.pipes inode (resized (length bytes) moment) (λ a is.
      let told = there_told file_of _ r.files r.inodes.attributes h.files inode may.was may.there a is in
      file_alone a.kind a.size _ (length bytes) told ∙ sym (file_alone a.kind a.size _ a.size told));
}
contents-keep (Fills inode moment after came) r may room h = record {
  files = resized_fits file_of _ r.files r.inodes.attributes h.files inode (filled moment after) (λ a is.
      let told = there_told calls_of of_calls r.pipes r.inodes.attributes h.pipes inode may.pipe may.there a is in
      ap (λ k. file_of k (filled moment after a).size) (filled-kind moment after a) ∙ (calls_alone a.kind a.size _ _ told ∙ sym (calls_alone a.kind a.size _ a.size told)));
  pipes = filled_fits calls_of of_calls r.pipes r.inodes.attributes h.pipes inode may.pipe after.pipe (filled moment after) may.there (λ a told.
      ap (λ k. calls_of k (filled moment after a).size) (filled-kind moment after a) ∙ (ap (calls_of a.kind) (filled-size moment after a (calls_wait a.kind a.size _ told))
      ∙ (calls_resized a.kind a.size may.pipe.device _ (length after.pipe.bytes) told ∙ ap (λ device. Some (device, length after.pipe.bytes)) (sym may.device))));
}
contents-keep (Unlinks own directory name inode mtime ctime) r may room h =
    let less = same_contents r h inode (without_link mtime ctime) (λ a. (refl, refl)) in
    let owned = may.2 in
    unused_contents (with_unlinked inode (under directory name) mtime ctime r) (record { files = less.files; pipes = less.pipes }) own inode
    (record { attribute = without_link mtime ctime owned.attribute; there = with_row-at r.inodes.attributes inode (without_link mtime ctime) ∙ ap (option_map (without_link mtime ctime)) owned.there; owned = owned.owned })
contents-keep (Closes own number block parting) r may room h =
    let owned = may.1 in
    unused_contents (without_block number r) (record { files = h.files; pipes = h.pipes }) own block.inode (record { attribute = owned.attribute; there = owned.there; owned = owned.owned })
contents-keep (Abandons process) r may room h = record {
  files = h.files;
  pipes = λ inode. ap (option_map of_calls) (abandoned-at process r.pipes inode) ∙ (same_calls process (row_at r.pipes inode) ∙ h.pipes inode);
}
contents-keep _ r may room h = record { files = h.files; pipes = h.pipes }

-- ---- no more bytes than may be

-- a file that is not longer than what was there
set_less : (files : Files) (n : ℕ) (row : Option (List ℕ)) → size_of row ≤ size_of (row_at files n) → total_size (slice_set files n row) ≤ total_size files
set_less [] n row less = omega arith
set_less (place ∷ files) zero row less = let now = sum_by-cons size_of row files in let was = sum_by-cons size_of place files in omega (arith, now, was, less)
set_less (place ∷ files) (suc n) row less =
    let now = sum_by-cons size_of place (slice_set files n row) in
    let was = sum_by-cons size_of place files in
    let rest = set_less files n row less in
    omega (arith, now, was, rest)

module _ (r : Resources) (h : HasLimits r) where
  set_file : (inode : ℕ) (row : Option (List ℕ)) → ((bytes : List ℕ) → row ≡ Some bytes → length bytes ≤ r.limits.file) → total_size (slice_set r.files inode row) ≤ r.limits.bytes → HasLimits (record r { files = slice_set r.files inode row })
  set_file inode row file files = record {
    file = λ other bytes there. elim (row_at-set_cases r.files inode other row bytes there) [ inl was ↦ h.file other bytes was | inr put ↦ file bytes put ];
    files = files;
    pipe = h.pipe;
  }

  set_pipe : (inode : ℕ) (row : Option (Pipe WaitingCall)) → ((pipe : Pipe WaitingCall) → row ≡ Some pipe → IsShort pipe) → HasLimits (record r { pipes = slice_set r.pipes inode row })
  set_pipe inode row short = record {
    file = h.file;
    files = h.files;
    pipe = λ other pipe there. elim (row_at-set_cases r.pipes inode other row pipe there) [ inl was ↦ h.pipe other pipe was | inr put ↦ short pipe put ];
  }

  -- an empty file, or none
  empty_file : (inode : ℕ) (row : Option (List ℕ)) → size_of row ≡ 0 → ((bytes : List ℕ) → row ≡ Some bytes → length bytes ≤ r.limits.file) → HasLimits (record r { files = slice_set r.files inode row })
  empty_file inode row none file = set_file inode row file (let less = set_less r.files inode row (omega (arith, none)) in let few = h.files in omega (arith, less, few))

  -- inodes and names are not seen
  seen_limits : (now : Resources) → now.files ≡ r.files → now.pipes ≡ r.pipes → now.limits ≡ r.limits → HasLimits now
  seen_limits now files pipes limits = record {
    file = λ inode bytes there. subst (λ (l : UserLimits). length bytes ≤ l.file) (sym limits) (h.file inode bytes (ap (λ rows. row_at rows inode) (sym files) ∙ there));
    files = subst (λ (l : UserLimits). total_size now.files ≤ l.bytes) (sym limits) (subst (λ rows. total_size rows ≤ r.limits.bytes) (sym files) h.files);
    pipe = λ inode pipe there. h.pipe inode pipe (ap (λ rows. row_at rows inode) (sym pipes) ∙ there);
  }

unused_limits : (own : Kind) (inode : ℕ) (r : Resources) → HasLimits r → HasLimits (without_unused own inode r)
unused_limits own inode r h =
    unused_cases HasLimits own inode r
    (λ gone. let less = seen_limits r h (freed inode r) refl refl refl in
    content_cases HasLimits own inode (freed inode r) (λ is. empty_file (freed inode r) less inode None refl (λ bytes none. absurd (cc))) (λ is. set_pipe (freed inode r) less inode None (λ pipe none. absurd (cc))) (λ is. less))
    (λ stays. h)

pub limits-keep : (change : ResourceChange) (r : Resources) → MayHappen change r → HasLimits r → HasLimits (with_change change r)
limits-keep (Comes inode directory name kind mode moment) r may h =
    let named = with_named inode (under directory name) (new_attribute kind mode r.user moment) r in
    let same = seen_limits r h named refl refl refl in
    empty_cases HasLimits kind inode named (λ is. empty_file named same inode (Some []) refl (λ bytes made. subst (λ bs. length bs ≤ r.limits.file) (same_Some _ _ made) (omega arith)))
    (λ device. set_pipe named same inode (Some (pipe_of device [] [] [])) (λ pipe made. subst (λ (p : Pipe WaitingCall). IsShort p) (same_Some _ _ made) (omega arith))) (λ is. same)
limits-keep (Writes inode moment bytes) r may h = seen_limits (record r { files = slice_set r.files inode (Some bytes) }) (set_file r h inode (Some bytes) (λ other put. subst (λ bs. length bs ≤ r.limits.file) (same_Some _ _ put) (file may.file)) (files may.files)) _ refl refl refl
  where
    was_short : length may.was ≤ r.limits.file
    was_short = h.file inode may.was may.there

    file : (length bytes ≤ length may.was) ⊎ (length bytes ≤ r.limits.file) → length bytes ≤ r.limits.file
    file (inl fewer) = let short = was_short in omega (arith, fewer, short)
    file (inr short) = short

    files : (length bytes ≤ length may.was) ⊎ (total_size (slice_set r.files inode (Some bytes)) ≤ r.limits.bytes) → total_size (slice_set r.files inode (Some bytes)) ≤ r.limits.bytes
    files (inl fewer) =
        let size : size_of (row_at r.files inode) ≡ length may.was = ap size_of may.there in
        let less = set_less r.files inode (Some bytes) (omega (arith, fewer, size)) in
        let few = h.files in
        omega (arith, less, few)
    files (inr few) = few
limits-keep (Fills inode moment after came) r may h =
    seen_limits (record r { pipes = slice_set r.pipes inode (Some after.pipe) }) (set_pipe r h inode (Some after.pipe) (λ pipe put. subst (λ (p : Pipe WaitingCall). IsShort p) (same_Some _ _ put) (may.short (h.pipe inode may.pipe may.there)))) _ refl refl refl
limits-keep (Unlinks own directory name inode mtime ctime) r may h = unused_limits own inode (with_unlinked inode (under directory name) mtime ctime r) (seen_limits r h _ refl refl refl)
limits-keep (Closes own number block parting) r may h = unused_limits own block.inode (without_block number r) (seen_limits r h _ refl refl refl)
limits-keep (Abandons process) r may h = record {
  file = h.file;
  files = h.files;
  pipe = λ inode pipe there.
      let was = mapped-was (row_at r.pipes inode) (with_abandoned process) pipe (sym (abandoned-at process r.pipes inode) ∙ there) in
      subst (λ (p : Pipe WaitingCall). IsShort p) was.2 (h.pipe inode was.0 was.1);
}
limits-keep _ r may h = seen_limits r h _ refl refl refl

-- ---- settled pipes and devices

-- a new one is settled
new_settled : (device : Option Device) → IsPipeSettled (pipe_of device [] [] [])
unfolding settle
new_settled device = refl

module _ (r : Resources) (h : HasSettledPipes r) where
  set_settled : (inode : ℕ) (row : Option (Pipe WaitingCall)) → ((pipe : Pipe WaitingCall) → row ≡ Some pipe → IsPipeSettled pipe) → HasSettledPipes (record r { pipes = slice_set r.pipes inode row })
  set_settled inode row new = record {
    settled = λ other pipe there. elim (row_at-set_cases r.pipes inode other row pipe there) [ inl was ↦ h.settled other pipe was | inr put ↦ new pipe put ];
  }

  unused_settled : (own : Kind) (inode : ℕ) → HasSettledPipes (without_unused own inode r)
  unused_settled own inode =
      unused_cases HasSettledPipes own inode r
      (λ gone. content_cases HasSettledPipes own inode (freed inode r) (λ is. record { settled = h.settled }) (λ is. record { settled = (set_settled inode None (λ pipe none. absurd (cc))).settled }) (λ is. record { settled = h.settled }))
      (λ stays. h)

pub settled-keep : (change : ResourceChange) (r : Resources) → MayHappen change r → HasSettledPipes r → HasSettledPipes (with_change change r)
settled-keep (Comes inode directory name kind mode moment) r may h =
    empty_cases HasSettledPipes kind inode (with_named inode (under directory name) (new_attribute kind mode r.user moment) r) (λ is. record { settled = h.settled })
    (λ device. record { settled = (set_settled r h inode (Some (pipe_of device [] [] [])) (λ pipe made. subst IsPipeSettled (same_Some _ _ made) (new_settled device))).settled }) (λ is. record { settled = h.settled })
settled-keep (Fills inode moment after came) r may h = record { settled = (set_settled r h inode (Some after.pipe) (λ pipe put. subst IsPipeSettled (same_Some _ _ put) may.settled)).settled }
settled-keep (Unlinks own directory name inode mtime ctime) r may h = unused_settled (with_unlinked inode (under directory name) mtime ctime r) (record { settled = h.settled }) own inode
settled-keep (Closes own number block parting) r may h = unused_settled (without_block number r) (record { settled = h.settled }) own block.inode
settled-keep (Abandons process) r may h = record {
  settled = λ inode pipe there.
      let was = mapped-was (row_at r.pipes inode) (with_abandoned process) pipe (sym (abandoned-at process r.pipes inode) ∙ there) in
      subst IsPipeSettled was.2 (abandoned_rests process was.0 (h.settled inode was.0 was.1));
}
settled-keep _ r may h = record { settled = h.settled }
