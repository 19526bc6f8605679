-- What is at the spot where a path leads, and what an open of a path and the making of a directory come to.
use Rattle.std.proofs.Common.{◌≡◌, ℕ, ◌&&◌, Bool, true, false, [], not, refl, sym, ap, ◌∙◌, subst, Option, Some, None, Result, Ok, Err, IsOk, IsSome, List, ◌∷◌, ◌++◌, length, arith}
use Rattle.qx_iofunc.specs.Given as given
use Rattle.std.specs.Prelude.{nat_le, is_some, if◌then◌else◌}
use Rattle.qx_attr.specs.Counts.{with_number}
use Rattle.qx_iofunc.proofs.FitLemmas.{block_fits}
use Rattle.qx_iofunc.specs.Fits.{Fits}
use Rattle.qx_iofunc.specs.inner.Makes.{may_make_directory}
use Rattle.qx_iofunc.specs.Makes.{may_make, may_open}
use Rattle.qx_iofunc.specs.Store.{Stored, with_stored}
use Rattle.qx_iofunc.specs.inner.Store.{with_made}
use Rattle.qx_iofunc.proofs.StoreLemmas.{emptied_in, emptied_is}
use Rattle.qx_isolation.proofs.Places.{lowest_from_free}
use Rattle.qx_machine.specs.declared.rows.Attribute.{Attribute}
use Rattle.qx_machine.specs.declared.rows.Client.{Client}
use Rattle.qx_machine.specs.declared.rows.Effect.TheVariants.{Opens}
use Rattle.qx_machine.specs.declared.rows.Kind.{Kind}
use Rattle.qx_machine.specs.declared.rows.Kind.TheVariants.{Device, Pipe}
use Rattle.qx_machine.specs.declared.rows.NewOpen.{NewOpen}
use Rattle.qx_machine.specs.declared.rows.Ocb.{Ocb}
use Rattle.qx_machine.specs.declared.rows.Wish.{Wish}
use Rattle.qx_machine.specs.Defaults.{allows, open_existing, opened, open_missing, writable}
use Rattle.qx_machine.specs.Files.{Files}
use Rattle.qx_machine.specs.Functions.{Deed, reply_alone}
use Rattle.qx_machine.specs.Inodes.{Inodes, Numbered, block_number, has, new_block, open_block, writes, inode_number, may}
use Rattle.qx_isolation.specs.Judgements.{◌>>=◌, found, need}
use Rattle.qx_machine.specs.Names.{Names, is_directory, Spot, Key, is_empty, root_key, search, spot, start, under, walk}
use Rattle.qx_machine.specs.RamManager.{emptied, with_bytes}
use Rattle.qx_machine.specs.Resources.{Resources, with_empty}
use Rattle.qx_isolation.specs.Rows.{lowest_from, put_row, row_at}
use Rattle.qx_base.specs.declared.errno.Errno.{Errno}
use Rattle.qx_base.specs.declared.errno.Errno.TheVariants.{EACCES, EEXIST, EISDIR, ENFILE, ENOENT}
use Rattle.qx_types.specs.declared.flags.OFlags.{OFlags}
use Rattle.qx_types.specs.declared.flags.TheConstants.OFlags.{CREAT, EXCL, TRUNC}
use Rattle.std.specs.FinMap.{insert, get}
use Rattle.qx_iofunc.specs.declared.found.New.{New}
use Rattle.qx_machine.specs.declared.rows.Access.TheVariants.{Write}
use Rattle.std.proofs.lemmas.Bool.{eqb-true}

-- ---- what is at a spot

-- what is at a spot is what its path leads to
abbrev IsAt : Names → Result Spot Errno → Type 0
IsAt names (Err error) = Unit
IsAt names (Ok at) = at.inode ≡ get names at.key

walk_at : (inodes : Inodes) (names : Names) (user directory : ℕ) (key : Key) (name : List ℕ) (rest : List (List ℕ)) → IsAt names (walk inodes names user directory key name rest)
walk_at inodes names user directory key name [] = by_search (search inodes user directory)
  where
    by_search : (searched : Result Bool Errno) → IsAt names (searched >>= (λ _. Ok (record { parent = directory; key = under key name; inode = get names (under key name) })))
    by_search (Err error) = tt
    by_search (Ok allowed) = refl
walk_at inodes names user directory key name (further ∷ rest) = by_search (search inodes user directory) (get names (under key name)) (λ next. walk_at inodes names user next (under key name) further rest)
  where
    by_search : (searched : Result Bool Errno) (next : Option ℕ) → ((next : ℕ) → IsAt names (walk inodes names user next (under key name) further rest)) → IsAt names (searched >>= (λ _. found next ENOENT >>= (λ next. walk inodes names user next (under key name) further rest)))
    by_search (Ok allowed) (Some next) again = again next
    by_search searched next again = tt

pub at_spot : (inodes : Inodes) (names : Names) (user root : ℕ) (rest : List (List ℕ)) (at_root : Errno) (at : Spot) → Ok at ≡ spot inodes names user root rest at_root → at.inode ≡ get names at.key
at_spot inodes names user root rest at_root at is = subst (IsAt names) (sym is) (by_rest rest)
  where
    by_start : (name : List ℕ) (rest : List (List ℕ)) (first : Result ℕ Errno) → IsAt names (first >>= (λ first. walk inodes names user first (root_key root) name rest))
    by_start name rest (Err error) = tt
    by_start name rest (Ok first) = walk_at inodes names user first (root_key root) name rest

    by_rest : (rest : List (List ℕ)) → IsAt names (spot inodes names user root rest at_root)
    by_rest [] = tt
    by_rest (name ∷ rest) = by_start name rest (start names root)

-- a directory is empty
pub none_in : (names : List (List ℕ)) → is_empty names ≡ true → names ≡ []
none_in [] e = refl
none_in (name ∷ names) e = let none : length (name ∷ names) ≡ 0 = eqb-true (length (name ∷ names)) 0 e in absurd (omega (arith, none))

-- ---- what may be opened

abbrev the : (A : Type 0) → A → A
the A value = value

-- an open control block is made under a number
abbrev with_block : Inodes → Ocb → ℕ → Inodes
with_block inodes block number = record inodes { blocks = put_row inodes.blocks number block; made = inodes.made ++ number ∷ [] }

-- an open, once it is known what number it gets
abbrev opened_by : NewOpen → OFlags → ℕ → Resources → Result ℕ Errno → Result (Deed Resources) Errno
opened_by over flags inode after number =
    (number >>= (λ n. Ok (the Numbered (record { number = n; inodes = with_block after.inodes (new_block inode flags over.client) n })))) >>= (λ block. Ok (reply_alone over.coid.0 [] (Opens over.coid block.number) (record after { inodes = block.inodes })))

judged : (last : Result ℕ Errno → Result (Deed Resources) Errno) → ((error : Errno) → last (Err error) ≡ Err error) → (shared fits may : Bool) (number : Result ℕ Errno)
    → (need shared EEXIST >>= (λ _. need fits EISDIR >>= (λ _. need may EACCES >>= (λ _. last number))))
    ≡ ((need shared EEXIST >>= (λ _. need fits EISDIR >>= (λ _. need may EACCES >>= (λ _. number)))) >>= (λ _. last number))
judged last refused true true true (Err error) = refused error
judged last refused shared fits may number = refl

module _ (inodes : Inodes) (user inode : ℕ) (flags : OFlags) where
  -- is there, and has that number
  pub may_open_is : (block : ℕ) → may_open inodes user inode flags ≡ Ok block → IsSome (row_at inodes.attributes inode) × (block_number inodes ≡ Ok block)
  may_open_is block is = by_row (row_at inodes.attributes inode) is
    where
      by_parts : (shared fits may : Bool) (number : Result ℕ Errno) → (need shared EEXIST >>= (λ _. need fits EISDIR >>= (λ _. need may EACCES >>= (λ _. number)))) ≡ Ok block → number ≡ Ok block
      by_parts true true true number e = e
      by_parts shared fits may number e = absurd (cc)

      by_row : (row : Option Attribute) → (found row ENOENT >>= (λ a. need (not (has flags CREAT && has flags EXCL)) EEXIST >>= (λ _. need (not (is_directory a.kind && writes flags)) EISDIR >>= (λ _. need (allows a user flags) EACCES >>= (λ _. block_number inodes))))) ≡ Ok block
          → IsSome row × (block_number inodes ≡ Ok block)
      by_row None e = absurd (cc)
      by_row (Some a) e = (refl, by_parts (not (has flags CREAT && has flags EXCL)) (not (is_directory a.kind && writes flags)) (allows a user flags) (block_number inodes) e)

-- where a number is free, it is opened
opened_ok : (over : NewOpen) (flags : OFlags) (inode : ℕ) (after : Resources) → IsOk (block_number after.inodes) → IsOk (opened over flags inode after)
opened_ok over flags inode after = by_number (block_number after.inodes)
  where
    by_number : (number : Result ℕ Errno) → IsOk number → IsOk (opened_by over flags inode after number)
    by_number (Ok n) is = refl
    by_number (Err error) is = absurd (cc)

module _ (r : Resources) (over : NewOpen) (inode : ℕ) (wish : Wish) where
  -- it is judged, and then opened
  existing_is : open_existing r over inode wish ≡ (may_open r.inodes r.user inode wish.flags >>= (λ _. opened over wish.flags inode (emptied wish.flags inode wish.moment r)))
  existing_is = by_row (row_at r.inodes.attributes inode) (has wish.flags TRUNC && writes wish.flags && is_some (row_at r.files inode))
    where
      by_row : (row : Option Attribute) (empties : Bool)
          → (found row ENOENT >>= (λ a. need (not (has wish.flags CREAT && has wish.flags EXCL)) EEXIST >>= (λ _. need (not (is_directory a.kind && writes wish.flags)) EISDIR >>= (λ _. need (allows a r.user wish.flags) EACCES >>= (λ _. opened over wish.flags inode (if empties then with_bytes inode wish.moment [] r else r))))))
          ≡ ((found row ENOENT >>= (λ a. need (not (has wish.flags CREAT && has wish.flags EXCL)) EEXIST >>= (λ _. need (not (is_directory a.kind && writes wish.flags)) EISDIR >>= (λ _. need (allows a r.user wish.flags) EACCES >>= (λ _. block_number r.inodes)))))
          >>= (λ _. opened over wish.flags inode (if empties then with_bytes inode wish.moment [] r else r)))
      by_row None empties = refl
      by_row (Some a) true = judged (opened_by over wish.flags inode (with_bytes inode wish.moment [] r)) (λ error. refl) (not (has wish.flags CREAT && has wish.flags EXCL)) (not (is_directory a.kind && writes wish.flags)) (allows a r.user wish.flags) (block_number r.inodes)
      by_row (Some a) false = judged (opened_by over wish.flags inode r) (λ error. refl) (not (has wish.flags CREAT && has wish.flags EXCL)) (not (is_directory a.kind && writes wish.flags)) (allows a r.user wish.flags) (block_number r.inodes)

  pub existing_judged : (given : Result ℕ Errno) → may_open r.inodes r.user inode wish.flags ≡ given → open_existing r over inode wish ≡ (given >>= (λ _. opened over wish.flags inode (emptied wish.flags inode wish.moment r)))
  existing_judged given is = existing_is ∙ ap (λ judged. judged >>= (λ _. opened over wish.flags inode (emptied wish.flags inode wish.moment r))) is

  pub existing_allowed : (block : ℕ) → may_open r.inodes r.user inode wish.flags ≡ Ok block → IsOk (open_existing r over inode wish)
  existing_allowed block may =
      let number : IsOk (block_number r.inodes) = rw (may_open_is r.inodes r.user inode wish.flags block may).1 refl in
      subst IsOk (sym (existing_judged (Ok block) may))
      (elim (has wish.flags TRUNC && writes wish.flags && is_some (row_at r.files inode)) as (λ empties. IsOk (opened over wish.flags inode (if empties then with_bytes inode wish.moment [] r else r))) [
        | true ↦ opened_ok over wish.flags inode (with_bytes inode wish.moment [] r) number
        | false ↦ opened_ok over wish.flags inode r number
      ])

-- ---- once it is open

module _ (inodes now : Inodes) (inode number : ℕ) (flags : OFlags) (client : Client) (is_open : with_number now (Ok number) ≡ open_block inodes inode flags client) where
  opened_is : now ≡ with_block inodes (new_block inode flags client) (lowest_from 1 inodes.blocks)
  opened_is = by_test (nat_le (lowest_from 1 inodes.blocks) inodes.most_blocks) is_open
    where
      by_test : (few : Bool) → with_number now (Ok number) ≡ ((if few then Ok (lowest_from 1 inodes.blocks) else Err ENFILE) >>= (λ n. Ok (record { number = n; inodes = with_block inodes (new_block inode flags client) n })))
          → now ≡ with_block inodes (new_block inode flags client) (lowest_from 1 inodes.blocks)
      by_test true e =
          let equal : record { number = number; inodes = now } ≡ record { number = lowest_from 1 inodes.blocks; inodes = with_block inodes (new_block inode flags client) (lowest_from 1 inodes.blocks) } = cc in
          ap (λ (given : Numbered). given.inodes) equal
      by_test false e = absurd (cc)

  pub opened_fits : (names : Names) (files : Files) → Fits inodes names files → Fits now names files
  opened_fits names files fits =
      subst (λ (i : Inodes). Fits i names files) (sym opened_is)
      (record {
        named = block_fits inodes names (lowest_from 1 inodes.blocks) (new_block inode flags client) (lowest_from_free 1 inodes.blocks) fits.named;
        sized = fits.sized;
        room = fits.room;
      })

-- the deed of an open
opened_deed : (over : NewOpen) (after : Resources) (now : Inodes) (number inode : ℕ) (flags : OFlags) → with_number now (Ok number) ≡ open_block after.inodes inode flags over.client → opened over flags inode after ≡ Ok (reply_alone over.coid.0 [] (Opens over.coid number) (record after { inodes = now }))
opened_deed over after now number inode flags is = ap (λ block. block >>= (λ block. Ok (reply_alone over.coid.0 [] (Opens over.coid block.number) (record after { inodes = block.inodes })))) (sym is)

-- what was there is no pipe that is made
not_made : (kind : Kind) (number inode : ℕ) (r : Resources) → given.with_pipe_made kind (record { number = number; inode = inode; is_new = false }) r ≡ r
not_made Pipe number inode r = refl
not_made (Device device) number inode r = refl
not_made kind number inode r = refl

pub existing_done : (s : Stored) (now : Inodes) (number inode : ℕ) (over : NewOpen) (wish : Wish) → may_open s.inodes s.user inode wish.flags ≡ Ok number → with_number now (Ok number) ≡ open_block (emptied_in wish.flags inode wish.moment s).inodes inode wish.flags over.client → (r : Resources) (own : Kind)
    → open_existing (with_stored r s) over inode wish
    ≡ Ok (given.open_given over.coid own (record { number = number; inode = inode; is_new = false }) (with_stored r (record (emptied_in wish.flags inode wish.moment s) { inodes = now })))
existing_done s now number inode over wish may is r own =
    existing_judged (with_stored r s) over inode wish (Ok number) may
    ∙ (ap (λ (after : Resources). opened over wish.flags inode after) (emptied_is wish.flags inode wish.moment s r)
    ∙ (opened_deed over (with_stored r (emptied_in wish.flags inode wish.moment s)) now number inode wish.flags is
    ∙ ap (λ (after : Resources). Ok (reply_alone over.coid.0 [] (Opens over.coid number) after))
    (sym (not_made own number inode (with_stored r (record (emptied_in wish.flags inode wish.moment s) { inodes = now }))))))

-- ---- what may be made

pub writable_row : (inodes : Inodes) (user parent : ℕ) (attribute : Attribute) → writable inodes user parent ≡ Ok attribute → row_at inodes.attributes parent ≡ Some attribute
writable_row inodes user parent attribute is = by_row (row_at inodes.attributes parent) is
  where
    by_access : (there : Attribute) (allowed : Bool) → (need {E = Errno} allowed EACCES >>= (λ _. Ok there)) ≡ Ok attribute → Some there ≡ Some attribute
    by_access there true e = cc
    by_access there false e = absurd (cc)

    by_row : (row : Option Attribute) → (found row ENOENT >>= (λ there. need (may there user Write) EACCES >>= (λ _. Ok there))) ≡ Ok attribute → row ≡ Some attribute
    by_row None e = absurd (cc)
    by_row (Some there) e = by_access there (may there user Write) e

pub record MakesDirectory (inodes : Inodes) (parent : ℕ) (there : Option ℕ) (new : New) : Type 0 where
  pub missing : there ≡ None
  pub parent_is : row_at inodes.attributes parent ≡ Some new.parent
  pub number_is : inode_number inodes ≡ Ok new.inode

pub makes_directory : (inodes : Inodes) (user parent : ℕ) (there : Option ℕ) (new : New) → may_make_directory inodes user parent there ≡ Ok new → MakesDirectory inodes parent there new
makes_directory inodes user parent there new is = by_parts there (writable inodes user parent) (inode_number inodes) refl refl is
  where
    by_parts : (there : Option ℕ) (attribute : Result Attribute Errno) (number : Result ℕ Errno) → writable inodes user parent ≡ attribute → inode_number inodes ≡ number
        → (need (not (is_some there)) EEXIST >>= (λ _. attribute >>= (λ attribute. number >>= (λ number. Ok (the New (record { inode = number; parent = attribute })))))) ≡ Ok new → MakesDirectory inodes parent there new
    by_parts None (Ok attribute) (Ok number) w n e =
        let same : record { inode = number; parent = attribute } ≡ new = cc in
        record { missing = refl; parent_is = writable_row inodes user parent attribute w ∙ ap (λ (n : New). Some n.parent) same; number_is = n ∙ ap (λ (n : New). Ok n.inode) same }
    by_parts there attribute number w n e = absurd (cc)

pub record Makes (inodes : Inodes) (user parent : ℕ) (flags : OFlags) (new : New) (block : ℕ) : Type 0 where
  pub creates : has flags CREAT ≡ true
  pub writable_is : writable inodes user parent ≡ Ok new.parent
  pub parent_is : row_at inodes.attributes parent ≡ Some new.parent
  pub block_is : block_number inodes ≡ Ok block
  pub number_is : inode_number inodes ≡ Ok new.inode

pub missing_makes : (inodes : Inodes) (user parent : ℕ) (new : New) (block : ℕ) (flags : OFlags) → may_make inodes user parent flags ≡ Ok (new, block) → Makes inodes user parent flags new block
missing_makes inodes user parent new block flags is = by_parts (has flags CREAT) (writable inodes user parent) (block_number inodes) (inode_number inodes) refl refl refl refl is
  where
    by_parts : (creates : Bool) (attribute : Result Attribute Errno) (free number : Result ℕ Errno) → has flags CREAT ≡ creates → writable inodes user parent ≡ attribute → block_number inodes ≡ free → inode_number inodes ≡ number
        → (need creates ENOENT >>= (λ _. attribute >>= (λ attribute. free >>= (λ free. number >>= (λ number. Ok (the (New × ℕ) (record { inode = number; parent = attribute }, free))))))) ≡ Ok (new, block) → Makes inodes user parent flags new block
    by_parts true (Ok attribute) (Ok free) (Ok number) c w b n e =
        let both : the (New × ℕ) (record { inode = number; parent = attribute }, free) ≡ (new, block) = cc in
        let same : record { inode = number; parent = attribute } ≡ new = ap (λ (both : New × ℕ). both.0) both in
        record {
          creates = c;
          writable_is = w ∙ ap (λ (n : New). Ok n.parent) same;
          parent_is = writable_row inodes user parent attribute w ∙ ap (λ (n : New). Some n.parent) same;
          block_is = b ∙ ap (λ (both : New × ℕ). Ok both.1) both;
          number_is = n ∙ ap (λ (n : New). Ok n.inode) same;
        }
    by_parts creates attribute free number c w b n e = absurd (cc)

-- ---- it is made, and opened

module _ (r : Resources) (s : Stored) (over : NewOpen) (at : Spot) (own : Kind) (wish : Wish) where
  -- what there is once it is made
  abbrev after : Kind → New → Resources
  after kind new = with_empty kind new.inode (record (with_stored r s) { inodes = (with_made at new.inode new.parent kind wish.mode wish.moment s).inodes; names = insert s.names at.key new.inode })

  after_inodes : (kind : Kind) (new : New) → (after kind new).inodes ≡ (with_made at new.inode new.parent kind wish.mode wish.moment s).inodes
  after_inodes Pipe new = refl
  after_inodes (Device device) new = refl
  after_inodes kind new = refl

  -- in the store, and with what is in it elsewhere
  after_is : (kind : Kind) (new : New) (number : ℕ) (now : Inodes)
      → record (after kind new) { inodes = now } ≡ given.with_pipe_made kind (record { number = number; inode = new.inode; is_new = true }) (with_stored r (record (with_made at new.inode new.parent kind wish.mode wish.moment s) { inodes = now }))
  after_is Pipe new number now = refl
  after_is (Device device) new number now = refl
  after_is kind new number now = refl

  missing_is : (new : New) (block : ℕ) → may_make s.inodes s.user at.parent wish.flags ≡ Ok (new, block) → open_missing own (with_stored r s) over at wish ≡ opened over wish.flags new.inode (after own new)
  missing_is new block may = let it = missing_makes s.inodes s.user at.parent new block wish.flags may in rw (it.creates, it.writable_is, it.block_is, it.number_is) refl

  pub missing_done : (new : New) (now : Inodes) (number : ℕ) → may_make s.inodes s.user at.parent wish.flags ≡ Ok (new, number)
      → with_number now (Ok number) ≡ open_block (with_made at new.inode new.parent own wish.mode wish.moment s).inodes new.inode wish.flags over.client
      → open_missing own (with_stored r s) over at wish
      ≡ Ok (given.open_given over.coid own (record { number = number; inode = new.inode; is_new = true }) (with_stored r (record (with_made at new.inode new.parent own wish.mode wish.moment s) { inodes = now })))
  missing_done new now number may is =
      missing_is new number may
      ∙ (opened_deed over (after own new) now number new.inode wish.flags (is ∙ ap (λ (from : Inodes). open_block from new.inode wish.flags over.client) (sym (after_inodes own new)))
      ∙ ap (λ (after : Resources). Ok (reply_alone over.coid.0 [] (Opens over.coid number) after)) (after_is own new number now))

  pub missing_allowed : (new : New) (block : ℕ) → may_make s.inodes s.user at.parent wish.flags ≡ Ok (new, block) → IsOk (open_missing own (with_stored r s) over at wish)
  missing_allowed new block may =
      let free = (missing_makes s.inodes s.user at.parent new block wish.flags may).block_is in
      let number : IsOk (block_number s.inodes) = rw free refl in
      subst IsOk (sym (missing_is new block may)) (opened_ok over wish.flags new.inode (after own new) (subst (λ (inodes : Inodes). IsOk (block_number inodes)) (sym (after_inodes own new)) number))
