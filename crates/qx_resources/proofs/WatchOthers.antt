-- What an unlink and a rename come to, and what tells or arms alone: nothing comes to hold.
use Rattle.std.proofs.Common.{◌≡◌, inl, ℕ, true, not, ◌==◌, refl, sym, ap, ◌∙◌, arith, Option, Some, None, ◌≢◌, List, slice_set, count_by}
use Rattle.std.proofs.lemmas.Bool.{false≢true, eqb-true, cond_both, and_parts}
use Rattle.std.specs.Prelude.{ℤ, ◌+◌, ◌&&◌, ◌||◌, length, nat_lt}
use Rattle.std.specs.FinMap.{remove}
use Rattle.qx_base.specs.declared.errno.Errno.TheVariants.{EBADF, EINVAL, EMFILE, ENOENT, EBUSY, EISDIR, ENOTDIR, ENOTEMPTY, EPERM, ESPIPE}
use Rattle.qx_types.specs.declared.fields.NotifyAction.{NotifyAction}
use Rattle.qx_types.specs.declared.fields.Whence.{Whence}
use Rattle.qx_types.specs.declared.limits.TheConstants.Limits.{LAST_CONNECTION}
use Rattle.qx_machine.specs.declared.rows.Attribute.{Attribute}
use Rattle.qx_machine.specs.declared.rows.Kind.{Kind}
use Rattle.qx_machine.specs.declared.rows.Kind.TheVariants.{Directory, File}
use Rattle.qx_machine.specs.declared.rows.NewDup.{NewDup}
use Rattle.qx_machine.specs.declared.rows.Ocb.{Ocb}
use Rattle.qx_machine.specs.declared.rows.Opened.{Opened}
use Rattle.qx_machine.specs.declared.rows.PulseWish.{PulseWish}
use Rattle.qx_machine.specs.declared.rows.WaitingCall.{WaitingCall}
use Rattle.qx_machine.specs.Attributes.{top_inode}
use Rattle.qx_machine.specs.Defaults.{cleared, dup_open, is_own, rename_path, rename_to, unnamed, with_both_changed, without_unused, writable, chmod_block, list_block, stat_block, stat_path, unlink_path, without_name}
use Rattle.qx_machine.specs.Events.{notified}
use Rattle.qx_machine.specs.Inodes.{dup_block, is_open, Inodes, free_inode, is_unused, with_attribute}
use Rattle.qx_isolation.specs.Judgements.{found, need}
use Rattle.qx_machine.specs.Names.{Spot, is_below, is_directory, is_same_key, spot, is_empty, names_in, inode_at}
use Rattle.qx_machine.specs.Notification.{conditions_at, event_of, notify_block}
use Rattle.qx_machine.specs.PipeManager.{seek_pipe}
use Rattle.qx_machine.specs.Pipes.{Pipe}
use Rattle.qx_machine.specs.Resources.{Resources, without_content}
use Rattle.qx_isolation.specs.Rows.{row_at, with_row}
use Rattle.qx_isolation.proofs.Places.{row_at-set_other}
use Rattle.qx_attr.proofs.CountLemmas.{count-free, counts_own}
use Rattle.qx_attr.specs.inner.Counts.{one}
use Rattle.qx_resources.proofs.WatchCloses.{free-blocks}
use Rattle.qx_resources.proofs.WatchDeeds.{GivesStill, moved-still}
use Rattle.qx_resources.proofs.WatchFacts.{IsStill}
use Rattle.qx_machine.proofs.Gives.{Gives, found-row, gives_by, gives_done, gives_if, gives_on, gives_error}
use Rattle.qx_resources.proofs.WatchOpens.{grows-still, same-grows, same-still}
use Rattle.qx_machine.specs.declared.rows.Kind.TheVariants as kind

-- ---- a name goes

-- what no block has open, none has
unopened : (blocks : List (Option Ocb)) (number : ℕ) (block : Ocb) (inode : ℕ) → row_at blocks number ≡ Some block → count_by (is_open (λ flags. true) inode) blocks ≡ 0 → block.inode ≢ inode
unopened blocks number block inode is none same =
    let closed = count-free (is_open (λ flags. true) inode) refl blocks number block is in
    let own = ap one (counts_own (λ flags. true) block inode (sym same)) in
    absurd (omega (arith, closed, own, none))

none-open : (inodes : Inodes) (inode : ℕ) (row : Option Attribute) → is_unused inodes inode row ≡ true → count_by (is_open (λ flags. true) inode) inodes.blocks ≡ 0
none-open inodes inode None is = absurd (false≢true is)
none-open inodes inode (Some attribute) is = eqb-true _ 0 (and_parts _ _ is).1

-- an inode that is free, and without what was in it
abbrev freed : Kind → ℕ → Resources → Resources
freed own inode s = without_content own inode (record s { inodes = free_inode s.inodes inode })

-- no block has its pipe open
row-still : (r s : Resources) (inode : ℕ) → s.inodes.blocks ≡ r.inodes.blocks → s.pipes ≡ r.pipes → count_by (is_open (λ flags. true) inode) r.inodes.blocks ≡ 0 → IsStill r (record s { inodes = free_inode s.inodes inode; pipes = slice_set s.pipes inode None })
row-still r s inode blocks pipes none =
    let t = record s { inodes = free_inode s.inodes inode; pipes = slice_set s.pipes inode None } in
    grows-still r t (same-grows r t (free-blocks s.inodes inode ∙ blocks) (λ number block is.
    inl (row_at-set_other s.pipes inode block.inode None (unopened r.inodes.blocks number block inode is none) ∙ ap (λ (rows : List (Option (Pipe WaitingCall))). row_at rows block.inode) pipes)))

content-still : (own : Kind) (r s : Resources) (inode : ℕ) → s.inodes.blocks ≡ r.inodes.blocks → s.pipes ≡ r.pipes → count_by (is_open (λ flags. true) inode) r.inodes.blocks ≡ 0 → IsStill r (freed own inode s)
content-still File r s inode blocks pipes none = same-still r (freed File inode s) (free-blocks s.inodes inode ∙ blocks) pipes
content-still Directory r s inode blocks pipes none = same-still r (freed Directory inode s) (free-blocks s.inodes inode ∙ blocks) pipes
content-still kind.Pipe r s inode blocks pipes none = row-still r s inode blocks pipes none
content-still (kind.Device device) r s inode blocks pipes none = row-still r s inode blocks pipes none

unused-still : (own : Kind) (r s : Resources) (inode : ℕ) → s.inodes.blocks ≡ r.inodes.blocks → s.pipes ≡ r.pipes → IsStill r (without_unused own inode s)
unused-still own r s inode blocks pipes =
    cond_both (is_unused s.inodes inode (row_at s.inodes.attributes inode)) _ s (IsStill r)
    (λ is. content-still own r s inode blocks pipes (ap (count_by (is_open (λ flags. true) inode)) (sym blocks) ∙ none-open s.inodes inode (row_at s.inodes.attributes inode) is))
    (λ is_not. same-still r s blocks pipes)

pub unlink-still : (own : Kind) (r : Resources) (root : ℕ) (rest : List (List ℕ)) (moment : ℕ) → GivesStill r (unlink_path own r root rest moment)
unlink-still own r root rest moment =
    gives_on _ (spot r.inodes r.names r.user root rest EBUSY) _ (λ at is.
    gives_on _ (found at.inode ENOENT) _ (λ inode there.
    gives_on _ (writable r.inodes r.user at.parent) _ (λ parent is_parent.
    gives_on _ (need (is_empty (names_in r.names inode)) ENOTEMPTY) _ (λ empty is_empty.
    gives_on _ (found (row_at r.inodes.attributes inode) ENOENT) _ (λ attribute has.
    gives_on _ (need (is_own own attribute.kind) ENOENT) _ (λ mine is_mine.
    gives_done _ _ (unused-still own r (without_name at parent inode attribute moment r) inode refl refl)))))))

cleared-still : (own : Kind) (r s : Resources) (attribute : Attribute) (to : Spot) (there : Option ℕ) (moment : ℕ) → s.inodes.blocks ≡ r.inodes.blocks → s.pipes ≡ r.pipes → Gives (IsStill r) (cleared own attribute to there moment s)
cleared-still own r s attribute to None moment blocks pipes = gives_done _ _ (same-still r s blocks pipes)
cleared-still own r s attribute to (Some there) moment blocks pipes =
    gives_on _ (found (row_at s.inodes.attributes there) ENOENT) _ (λ target is.
    gives_on _ (need (is_directory target.kind || not (is_directory attribute.kind)) ENOTDIR) _ (λ onto is_onto.
    gives_on _ (need (is_directory attribute.kind || not (is_directory target.kind)) EISDIR) _ (λ no_directory is_none.
    gives_on _ (need (is_empty (names_in s.names there)) ENOTEMPTY) _ (λ empty is_empty.
    gives_on _ (need (is_own own target.kind) ENOENT) _ (λ mine is_mine.
    gives_done _ _ (unused-still own r (record s { inodes = with_attribute s.inodes there (unnamed moment target); names = remove s.names to.key }) there blocks pipes))))))

rename_to-still : (own : Kind) (r : Resources) (from : Spot) (inode : ℕ) (parent : Attribute) (to : Spot) (other : Attribute) (moment : ℕ) → GivesStill r (rename_to own r from inode parent to other moment)
rename_to-still own r from inode parent to other moment =
    gives_on _ (found (row_at r.inodes.attributes inode) ENOENT) _ (λ attribute has.
    gives_on _ (need (not (is_below from.key to.key.0 to.key.1)) EINVAL) _ (λ outside is_outside.
    gives_by (IsStill r) _ (cleared own attribute to to.inode moment (with_both_changed from parent to other moment r)) _ (cleared-still own r (with_both_changed from parent to other moment r) attribute to to.inode moment refl refl) (λ free still.
    gives_done _ _ still)))

pub rename-still : (own : Kind) (r : Resources) (root : ℕ) (old new : List (List ℕ)) (moment : ℕ) → GivesStill r (rename_path own r root old new moment)
rename-still own r root old new moment =
    gives_on _ (need (not (length old == 0) && not (length new == 0)) EBUSY) _ (λ named is_named.
    gives_on _ (spot r.inodes r.names r.user root old EBUSY) _ (λ from is_from.
    gives_on _ (found from.inode ENOENT) _ (λ inode there.
    gives_on _ (spot r.inodes r.names r.user root new EBUSY) _ (λ to is_to.
    gives_on _ (writable r.inodes r.user from.parent) _ (λ parent is_parent.
    gives_on _ (writable r.inodes r.user to.parent) _ (λ other is_other.
    gives_if _ (is_same_key from.key to.key) _ _ (gives_done _ _ (same-still r r refl refl)) (rename_to-still own r from inode parent to other moment)))))))

-- ---- a connection more

dup_block-still : (r : Resources) (number : ℕ) → Gives (λ (inodes : Inodes). IsStill r (record r { inodes = inodes })) (dup_block r.inodes number)
dup_block-still r number =
    let used = λ (block : Ocb). record block { uses = block.uses + 1 } in
    gives_on _ (found (row_at r.inodes.blocks number) EBADF) _ (λ block is.
    gives_on _ (need (nat_lt block.uses LAST_CONNECTION) EMFILE) _ (λ few is_few.
    gives_done _ _
    (moved-still r (record r { inodes = record r.inodes { blocks = with_row r.inodes.blocks number used } }) number used (record { inode = λ block. refl; flags = λ block. refl }) block
    (found-row _ _ block is) refl refl)))

pub dup-still : (r : Resources) (dup : NewDup) → GivesStill r (dup_open r dup)
dup-still r dup = gives_by _ _ (dup_block r.inodes dup.old.number) _ (dup_block-still r dup.old.number) (λ inodes still. gives_done _ _ still)

-- ---- what tells

pub stat_path-still : (r : Resources) (root : ℕ) (rest : List (List ℕ)) (moment : ℕ) → GivesStill r (stat_path r root rest moment)
stat_path-still r root rest moment =
    gives_on _ (inode_at r.inodes r.names r.user root rest) _ (λ inode is.
    gives_on _ (found (row_at r.inodes.attributes inode) ENOENT) _ (λ attribute there. gives_done _ _ (same-still r r refl refl)))

pub stat_block-still : (r : Resources) (over : Opened) → GivesStill r (stat_block r over)
stat_block-still r over =
    gives_on _ (found (row_at r.inodes.blocks over.number) EBADF) _ (λ block is.
    gives_on _ (found (row_at r.inodes.attributes block.inode) EBADF) _ (λ attribute there. gives_done _ _ (same-still r r refl refl)))

pub list-still : (r : Resources) (over : Opened) (after : List ℕ) → GivesStill r (list_block r over after)
list-still r over after =
    gives_on _ (found (row_at r.inodes.blocks over.number) EBADF) _ (λ block is.
    gives_on _ (found (row_at r.inodes.attributes block.inode) EBADF) _ (λ attribute there.
    gives_on _ (need (is_directory attribute.kind) ENOTDIR) _ (λ directory is_one. gives_done _ _ (same-still r r refl refl))))

pub chmod-still : (r : Resources) (over : Opened) (mode : ℕ) → GivesStill r (chmod_block r over mode)
chmod-still r over mode =
    gives_on _ (found (row_at r.inodes.blocks over.number) EBADF) _ (λ block is.
    gives_on _ (need (not (block.inode == top_inode)) EPERM) _ (λ other is_other.
    gives_on _ (found (row_at r.inodes.attributes block.inode) EBADF) _ (λ attribute there. gives_done _ _ (same-still r (record r { inodes = with_attribute r.inodes block.inode (record attribute { mode = mode; ctime = over.moment }) }) refl refl))))

pub notify-still : (r : Resources) (over : Opened) (action : NotifyAction) (wish : PulseWish) → GivesStill r (notify_block r over action wish)
notify-still r over action wish =
    gives_on _ (found (row_at r.inodes.blocks over.number) EBADF) _ (λ block opened.
    gives_on _ (notified r.limits.events action (event_of over wish) (conditions_at r (Some block)) r.events) _ (λ given is. gives_done _ _ (same-still r (record r { events = given.events }) refl refl)))

pub seek_pipe-still : (r : Resources) (over : Opened) (whence : Whence) (by : ℤ) → GivesStill r (seek_pipe r over whence by)
seek_pipe-still r over whence by =
    gives_on _ (found (row_at r.inodes.blocks over.number) EBADF) _ (λ block is.
    gives_on _ (found (row_at r.inodes.attributes block.inode) EBADF) _ (λ attribute there.
    gives_on _ (need (not (is_directory attribute.kind)) EINVAL) _ (λ pipe is_pipe. gives_error _ ESPIPE)))
