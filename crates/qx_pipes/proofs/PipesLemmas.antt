-- The pipes and devices of a user among those of all, and the user's store beside them, as one of them changes, and by an open and an unlink.
use Rattle.std.proofs.Common.{◌≡◌, ℕ, ◌<◌, Bool, true, false, List, [], ◌∷◌, length, Option, None, Some, slice_set, Result, Ok, Err, refl, sym, ap, ◌∙◌, subst, append-nil, arith}
use Rattle.std.proofs.lemmas.Bool.{cond_both}
use Rattle.std.proofs.lemmas.Grind.{common_steps}
use Rattle.std.proofs.lemmas.List.{get_or-set_same, set-get_or, set-set}
use Rattle.std.specs.List.{filter}
use Rattle.std.specs.Prelude.{if◌then◌else◌, option_map, IfOk, IsSome, MatchOption}
use Rattle.std.specs.Result.{result_map_both}
use Rattle.qx_attr.proofs.CountLemmas.{row-set_same}
use Rattle.qx_attr.specs.Flags.{block_for}
use Rattle.qx_devices.specs.declared.Device.{Device}
use Rattle.qx_iofunc.proofs.PlaceLemmas.{row-freed}
use Rattle.qx_iofunc.specs.declared.found.New.{New}
use Rattle.qx_iofunc.specs.declared.found.Opening.{Opening}
use Rattle.qx_iofunc.specs.Given as given
use Rattle.qx_iofunc.specs.Makes.{may_make}
use Rattle.qx_iofunc.specs.Sizes.{sized}
use Rattle.qx_iofunc.specs.Store.{Stored, block_gone, unused_gone, with_stored}
use Rattle.qx_isolation.proofs.Places.{set-row_at}
use Rattle.qx_machine.specs.declared.rows.Attribute.{Attribute}
use Rattle.qx_machine.specs.declared.rows.Effect.TheVariants.{Keeps, Opens}
use Rattle.qx_machine.specs.declared.rows.Effect.{Effect}
use Rattle.qx_machine.specs.declared.rows.NewOpen.{NewOpen}
use Rattle.qx_machine.specs.declared.rows.Ocb.{Ocb}
use Rattle.qx_machine.specs.declared.rows.Sides.{Sides}
use Rattle.qx_machine.specs.declared.rows.WaitingCall.{WaitingCall}
use Rattle.qx_machine.specs.declared.rows.Wish.{Wish}
use Rattle.qx_machine.specs.Defaults.{free_block, open_existing, open_missing, own_block, without_block}
use Rattle.qx_machine.specs.Functions.{Deed, reply_alone}
use Rattle.qx_machine.specs.Inodes.{Inodes, has, is_unused}
use Rattle.qx_isolation.specs.Judgements.{◌>>=◌}
use Rattle.qx_machine.specs.Names.{Key, Spot}
use Rattle.qx_machine.specs.PipeManager as machine
use Rattle.qx_machine.specs.Pipes.{PipeAfter, Pipe, nobody_answered, pipe_of, release, removed}
use Rattle.qx_machine.specs.Resources.{Resources}
use Rattle.qx_isolation.specs.Rows.{row_at, with_row}
use Rattle.qx_machine.specs.Waiting.{is_gone, is_over, no_pipes, offered, sides_of, wanted, Pipes}
use Rattle.qx_pipes.specs.Pipes.{Follows, done_of, kind_with, seen}
use Rattle.qx_shared.proofs.AfterLemmas.{pipe_at-after, row-put, then-after}
use Rattle.qx_shared.specs.Shared.{HasPipe, Shared, pipe_at, pipes_of, went_in, with_pipe_after, with_pipes, with_row_at}
use Rattle.qx_base.specs.declared.errno.Errno.{Errno}
use Rattle.qx_types.specs.declared.flags.OFlags.{OFlags}

-- ---- one pipe among those of all

nobody-stays : {A : Type 0} (all : List A) → filter (λ who. false) all ≡ []
nobody-stays [] = refl
nobody-stays (who ∷ all) = nobody-stays all

abbrev pub no_bytes : Option Device → Pipe WaitingCall
no_bytes device = pipe_of device [] [] []

module _ (c : Shared) (user : ℕ) where
  -- no pipe changes
  pub given-same : c ≡ with_pipes c user (pipes_of c user) []
  given-same = λ i. record c { pipes = sym (set-get_or c.pipes user no_pipes) i; answered = sym (append-nil c.answered) i }

  -- one row changes
  pub given-row : (inode : ℕ) (row : Option (Pipe WaitingCall)) → with_row_at c user inode row ≡ with_pipes c user (slice_set (pipes_of c user) inode row) []
  given-row inode row = λ i. record (with_row_at c user inode row) { answered = sym (append-nil c.answered) i }

  -- a row that was free is free again
  pub row-free : (inode : ℕ) → row_at (pipes_of c user) inode ≡ None → with_row_at c user inode None ≡ c
  row-free inode none = given-row inode None ∙ ap (λ row. with_pipes c user (slice_set (pipes_of c user) inode row) []) (sym none) ∙ ap (λ pipes. with_pipes c user pipes []) (set-row_at (pipes_of c user) inode) ∙ sym given-same

  module _ (inode : ℕ) where
    pub there : HasPipe c user inode → row_at (pipes_of c user) inode ≡ Some (pipe_at c user inode)
    there some = grind (arith, common_steps, some)

    -- a pipe stands there still after something was done to it
    pub stays : (left : Shared) (after : PipeAfter WaitingCall) → left ≡ with_pipe_after c user inode after → HasPipe c user inode → HasPipe left user inode
    stays left after left_is some = rw left_is (subst IsSome (sym (row-put c.pipes user inode some (Some after.pipe))) refl)

    -- a pipe that was made where none stood goes again
    pub row-back : (made new : Shared) (row : Option (Pipe WaitingCall)) → user < length c.pipes → row_at (pipes_of c user) inode ≡ None → made ≡ with_row_at c user inode row → new ≡ with_row_at made user inode None → new ≡ c
    row-back made new row inside none made_is new_is =
        let pipes = slice_set (pipes_of c user) inode row in
        let got : pipes_of (with_row_at c user inode row) user ≡ pipes = get_or-set_same c.pipes user pipes no_pipes inside in
        let again : with_row_at (with_row_at c user inode row) user inode None ≡ with_row_at c user inode None = rw (got, set-set (pipes_of c user) inode row None, set-set c.pipes user pipes (slice_set (pipes_of c user) inode None)) refl in
        rw made_is at new_is ∙ again ∙ row-free inode none

    -- a pipe that all calls left, and then all bytes, is a device's or a pipe
    pub left-empty : (left new : Shared) (device : Option Device) → left ≡ with_pipe_after c user inode (nobody_answered (removed (λ who. true) (pipe_at c user inode)))
        → new ≡ with_pipe_after left user inode (nobody_answered (record (pipe_at left user inode) { device = device; bytes = [] })) → HasPipe c user inode → new ≡ with_row_at c user inode (Some (no_bytes device))
    left-empty left new device left_is is some =
        let pipe = pipe_at c user inode in
        rw left_is at is
        ∙ then-after c user inode some (nobody_answered (removed (λ who. true) pipe)) (λ p. nobody_answered (record p { device = device; bytes = [] }))
        ∙ sym (given-row inode (Some (record (removed (λ who. true) pipe) { device = device; bytes = [] })))
        ∙ (λ i. with_row_at c user inode (Some (record { device = device; bytes = []; readers = nobody-stays pipe.readers i; writers = nobody-stays pipe.writers i })))

-- ---- another size of an inode, and an inode that goes

abbrev pub resized : ℕ → (Attribute → Attribute) → Stored → Stored
resized inode change s = record s { inodes = record s.inodes { attributes = with_row s.inodes.attributes inode change } }

-- an inode goes, or not, and its pipe
abbrev freed_if : Bool → ℕ → Inodes → Inodes
freed_if gone inode inodes = if gone then record inodes { attributes = slice_set inodes.attributes inode None } else inodes

abbrev gone_if : Bool → ℕ → Stored → Stored
gone_if gone inode s = if gone then record s { inodes = freed_if gone inode s.inodes } else s

abbrev without_if : Bool → ℕ → Resources → Resources
without_if gone inode r = if gone then record r { inodes = freed_if gone inode r.inodes; pipes = slice_set r.pipes inode None } else r

abbrev unused : Inodes → ℕ → Bool
unused inodes inode = is_unused inodes inode (row_at inodes.attributes inode)

-- by a pipe's kind of inode and by a device's it is the same
pub gone-by : (device : Option Device) (inode : ℕ) (s : Stored) → unused_gone (kind_with device) inode s ≡ gone_if (unused s.inodes inode) inode s
gone-by None inode s = refl
gone-by (Some device) inode s = refl

-- a deed, and what was open goes then, if that was all that kept it
abbrev unopened : ℕ → Deed Resources → Deed Resources
unopened inode deed = record deed { state = without_if (unused deed.state.inodes inode) inode deed.state }

abbrev freed_by : Resources → ℕ → ℕ → ℕ → Deed Resources
freed_by r number moment inode = unopened inode (machine.released (without_block number r) number inode moment (row_at r.pipes inode))

free-by : (device : Option Device) (r : Resources) (number moment : ℕ) → free_block (kind_with device) r number moment ≡ (own_block r.inodes number (kind_with device) >>= λ block. Ok (freed_by r number moment block.inode))
free-by None r number moment = refl
free-by (Some device) r number moment = refl

-- without a block of its own that error comes
pub free-refused : (device : Option Device) (r : Resources) (number moment : ℕ) (error : Errno) → Err error ≡ result_map_both (λ (block : Ocb). block.inode) (λ error. error) (own_block r.inodes number (kind_with device)) → Err error ≡ done_of (free_block (kind_with device) r number moment)
free-refused device r number moment error own = rw (free-by device r number moment) (by_block (own_block r.inodes number (kind_with device)) own)
  where
    by_block : (blocks : Result Ocb Errno) → Err error ≡ result_map_both (λ (block : Ocb). block.inode) (λ error. error) blocks → Err error ≡ done_of (blocks >>= λ block. Ok (freed_by r number moment block.inode))
    by_block blocks is = grind (arith, common_steps)

module _ (s : Stored) (inode size moment : ℕ) (filled : Bool) where
  abbrev change : Attribute → Attribute
  change = sized size filled moment

  abbrev rows : List (Option Attribute)
  rows = s.inodes.attributes

  unused-sized : unused (resized inode change s).inodes inode ≡ unused s.inodes inode
  unused-sized = grind (arith, common_steps, row-freed, row-set_same)

  -- that an inode goes first makes no difference, and no open control block goes with it
  gone-first : (gone : Bool) → (let bare = gone_if gone inode s in (bare.user ≡ s.user) × (sides_of bare.inodes inode ≡ sides_of s.inodes inode) × (resized inode change bare ≡ gone_if gone inode (resized inode change s)))
  gone-first true =
      let none = ap (λ row. slice_set (slice_set rows inode None) inode (option_map change row)) (row-freed rows inode) ∙ set-set rows inode None None ∙ sym (set-set rows inode (option_map change (row_at rows inode)) None) in
      (refl, refl, ap (λ rows. record s { inodes = record s.inodes { attributes = rows } }) none)
  gone-first false = (refl, refl, refl)

-- ---- a store and what all share follow the machine

-- an error changes nothing
pub refused : {E : Type 0} {s new : Stored} {c : Shared} {r : Resources} {error : E} {meant : Result (Deed Resources) E} → Err error ≡ meant → new ≡ s → Follows s c new c r meant
refused {E} {s} {new} {c} {r} is same = subst (Follows s c new c r) is (record { state = ap (λ s. seen r s c) same; shared = refl })

-- an open control block that was opened with a flag
pub block-at : (inodes now : Inodes) (number : ℕ) (flag : OFlags) (block : Ocb) → Ok block ≡ block_for now number flag → now ≡ inodes → (row_at inodes.blocks number ≡ Some block) × (has block.flags flag ≡ true)
block-at inodes now number flag block is same = grind (arith, common_steps, is, same)

module _ {E : Type 0} (s new : Stored) (c left : Shared) (r : Resources) (inside : s.user < length c.pipes) where
  -- the pipes are those that the machine leaves, and all else is in the store
  pub follows : (deed : Deed Resources) → new.user ≡ s.user → left ≡ with_pipes c s.user deed.state.pipes deed.answers → deed.state ≡ record (with_stored r new) { pipes = deed.state.pipes } → Follows {E = E} s c new left r (Ok deed)
  follows deed user left_is state_is =
      let pipes : pipes_of left new.user ≡ deed.state.pipes = ap (pipes_of left) user ∙ ap (λ (c : Shared). pipes_of c s.user) left_is ∙ get_or-set_same c.pipes s.user deed.state.pipes no_pipes inside in
      record { state = ap (λ pipes. record (with_stored r new) { pipes = pipes }) pipes ∙ sym state_is; shared = left_is }

  -- something was done to a pipe, and its inode has its size
  pub after-follows : (inode moment : ℕ) (after : PipeAfter WaitingCall) (filled : Bool) → HasPipe c s.user inode → left ≡ with_pipe_after c s.user inode after → filled ≡ went_in after.answers → new ≡ resized inode (sized (length (pipe_at left s.user inode).bytes) filled moment) s
      → Follows {E = E} s c new left r (Ok (machine.deed_of_pipe (seen r s c) inode moment after))
  after-follows inode moment after filled some left_is filled_is new_is =
      let pipe : pipe_at left s.user inode ≡ after.pipe = ap (λ (c : Shared). pipe_at c s.user inode) left_is ∙ pipe_at-after c s.user inode some after in
      let sized_is = rw (pipe, filled_is) at new_is in
      let pipes = slice_set (pipes_of c s.user) inode (Some after.pipe) in
      follows (machine.deed_of_pipe (seen r s c) inode moment after) (ap (λ (s : Stored). s.user) sized_is) left_is (ap (λ new. record (with_stored r new) { pipes = pipes }) (sym sized_is))

-- ---- a block goes, once it was judged

module _ (s new : Stored) (c left : Shared) (r : Resources) (device : Option Device) (number moment inode : ℕ) (inside : s.user < length c.pipes) (own : Ok inode ≡ result_map_both (λ (block : Ocb). block.inode) (λ error. error) (own_block s.inodes number (kind_with device))) where
  abbrev freed : Stored
  freed = block_gone number s

  -- what is done to the pipe, and then the rest
  abbrev first : Deed Resources
  first = machine.released (seen r freed c) number inode moment (row_at (pipes_of c s.user) inode)

  abbrev and_rest : Resources → Deed Resources
  and_rest state = record first { state = state }

  freed-is : (blocks : Result Ocb Errno) → Ok inode ≡ result_map_both (λ (block : Ocb). block.inode) (λ error. error) blocks → Ok (unopened inode first) ≡ (blocks >>= λ block. Ok (freed_by (seen r s c) number moment block.inode))
  freed-is blocks is = grind (arith, common_steps)

  rest-follows : (inodes : Inodes) (between : Shared) (gone : Bool) → Follows {E = Errno} freed c (record freed { inodes = inodes }) between r (Ok first) → new ≡ gone_if gone inode (record freed { inodes = inodes }) → gone ≡ unused inodes inode
      → left ≡ (if gone then with_row_at between s.user inode None else between) → Follows s c new left r (free_block (kind_with device) (seen r s c) number moment)
  rest-follows inodes between gone follow new_is gone_is left_is =
      subst (Follows s c new left r) (freed-is (own_block s.inodes number (kind_with device)) own ∙ sym (free-by device (seen r s c) number moment))
      (subst (λ state. Follows {E = Errno} s c new left r (Ok (and_rest (without_if (unused state.inodes inode) inode state)))) follow.state
      (rw new_is (subst (λ unused. Follows {E = Errno} s c (gone_if gone inode mid) left r (Ok (and_rest (without_if unused inode (seen r mid between))))) gone_is (by_test gone left_is))))
    where
      mid : Stored
      mid = record freed { inodes = inodes }

      between_is : between ≡ with_pipes c s.user (pipes_of between s.user) first.answers
      between_is = follow.shared ∙ ap (λ (r : Resources). with_pipes c s.user r.pipes first.answers) (sym follow.state)

      by_test : (gone : Bool) → left ≡ (if gone then with_row_at between s.user inode None else between) → Follows {E = Errno} s c (gone_if gone inode mid) left r (Ok (and_rest (without_if gone inode (seen r mid between))))
      by_test true left_is =
          let pipes = pipes_of between s.user in
          let row = slice_set pipes inode None in
          follows s (gone_if true inode mid) c left r inside (and_rest (without_if true inode (seen r mid between))) refl
          (left_is ∙ ap (λ (between : Shared). record between { pipes = slice_set between.pipes s.user row }) between_is ∙ ap (λ all. record (with_pipes c s.user pipes first.answers) { pipes = all }) (set-set c.pipes s.user pipes row)) refl
      by_test false left_is = follows s mid c left r inside (and_rest (seen r mid between)) refl (left_is ∙ between_is) refl

  -- where there was a pipe
  pub free-follows : (between : Shared) (filled gone : Bool) (bare : Stored) (sides : Sides) → HasPipe c s.user inode → bare ≡ unused_gone (kind_with device) inode freed → gone ≡ unused freed.inodes inode → sides ≡ sides_of bare.inodes inode
      → (let after = release wanted offered is_gone (is_over number) sides (pipe_at c s.user inode) in (between ≡ with_pipe_after c s.user inode after) × (filled ≡ went_in after.answers)) → new ≡ resized inode (sized (length (pipe_at between bare.user inode).bytes) filled moment) bare
      → left ≡ (if gone then with_row_at between s.user inode None else between) → Follows s c new left r (free_block (kind_with device) (seen r s c) number moment)
  free-follows between filled gone bare sides some bare_is gone_is sides_is did new_is =
      let size = length (pipe_at between s.user inode).bytes in
      let change = sized size filled moment in
      let first = gone-first freed inode size moment filled gone in
      let bare_was : bare ≡ gone_if gone inode freed = bare_is ∙ gone-by device inode freed ∙ ap (λ gone. gone_if gone inode freed) (sym gone_is) in
      let done = rw (sides_is ∙ ap (λ (s : Stored). sides_of s.inodes inode) bare_was ∙ first.1) at did in
      let after = release wanted offered is_gone (is_over number) (sides_of freed.inodes inode) (pipe_at c s.user inode) in
      let user : bare.user ≡ s.user = ap (λ (s : Stored). s.user) bare_was ∙ first.0 in
      rest-follows (resized inode change freed).inodes between gone (rw (there c s.user inode some) (after-follows freed (resized inode change freed) c between r inside inode moment after filled some done.0 done.1 refl))
      (new_is ∙ ap (λ user. resized inode (sized (length (pipe_at between user inode).bytes) filled moment) bare) user ∙ ap (resized inode change) bare_was ∙ first.2)
      (gone_is ∙ sym (unused-sized freed inode size moment filled))

  -- where there was none
  pub free-follows-none : row_at (pipes_of c s.user) inode ≡ None → new ≡ unused_gone (kind_with device) inode freed → left ≡ c → Follows s c new left r (free_block (kind_with device) (seen r s c) number moment)
  free-follows-none none new_is left_is =
      rest-follows freed.inodes c (unused freed.inodes inode) (rw none (record { state = refl; shared = given-same c s.user })) (new_is ∙ gone-by device inode freed) refl
      (cond_both (unused freed.inodes inode) _ c (λ d. left ≡ d) (λ _. left_is ∙ sym (row-free c s.user inode none)) (λ _. left_is))

-- ---- an open and an unlink

abbrev Leaves : Pipes → Result (Deed Resources) Errno → Type 0
Leaves pipes meant = IfOk meant (λ deed. deed.state.pipes ≡ pipes)

existing-keeps : (r : Resources) (over : NewOpen) (inode : ℕ) (wish : Wish) → Leaves r.pipes (open_existing r over inode wish)
existing-keeps r over inode wish = grind (arith, common_steps)

missing-makes : (device : Option Device) (r : Resources) (over : NewOpen) (at : Spot) (wish : Wish) (new : New) (block : ℕ) → may_make r.inodes r.user at.parent wish.flags ≡ Ok (new, block) → Leaves (slice_set r.pipes new.inode (Some (no_bytes device))) (open_missing (kind_with device) r over at wish)
missing-makes None r over at wish new block may = grind (arith, common_steps)
missing-makes (Some device) r over at wish new block may = grind (arith, common_steps)

-- what is made or goes is in the pipes alone
made-apart : (device : Option Device) (opening : Opening) (r : Resources) → (let state = given.with_pipe_made (kind_with device) opening r in state ≡ record r { pipes = state.pipes })
made-apart None opening r = cond_both opening.is_new _ r (λ state. state ≡ record r { pipes = state.pipes }) (λ _. refl) (λ _. refl)
made-apart (Some device) opening r = cond_both opening.is_new _ r (λ state. state ≡ record r { pipes = state.pipes }) (λ _. refl) (λ _. refl)

gone-apart : (device : Option Device) (inode : ℕ) (r : Resources) → given.with_pipe_gone (kind_with device) (Some inode) r ≡ record r { pipes = slice_set r.pipes inode None }
gone-apart None inode r = refl
gone-apart (Some device) inode r = refl

nothing-gone : (device : Option Device) (r : Resources) → given.with_pipe_gone (kind_with device) None r ≡ r
nothing-gone None r = refl
nothing-gone (Some device) r = refl

-- what the machine gives, and what follows it
pub record IsTold (s new : Stored) (c left : Shared) (r : Resources) (status : ℕ) (effect : Effect) (meant : Result (Deed Resources) Errno) : Type 0 where
  pub told : Ok (reply_alone status [] effect (seen r new left)) ≡ meant
  pub follow : Follows s c new left r meant

module _ (s new : Stored) (c left : Shared) (r : Resources) (inside : s.user < length c.pipes) (user : new.user ≡ s.user) where
  -- the machine's state, but for pipes
  abbrev now : Resources
  now = with_stored (seen r s c) new

  told-by : (meant : Result (Deed Resources) Errno) (status : ℕ) (effect : Effect) (state : Resources) → Ok (reply_alone status [] effect state) ≡ meant → left ≡ with_pipes c s.user state.pipes [] → state ≡ record (with_stored r new) { pipes = state.pipes }
      → IsTold s new c left r status effect meant
  told-by meant status effect state is left_is state_is =
      let follow = follows {E = Errno} s new c left r inside (reply_alone status [] effect state) user left_is state_is in
      record { told = ap (λ state. Ok (reply_alone status [] effect state)) follow.state ∙ is; follow = subst (Follows s c new left r) is follow }

  module _ (device : Option Device) (over : NewOpen) (wish : Wish) (o : Opening) where
    opened-told : (meant : Result (Deed Resources) Errno) (pipes : Pipes) → meant ≡ Ok (given.open_given over.coid (kind_with device) o now) → Leaves pipes meant → left ≡ with_pipes c s.user pipes [] → IsTold s new c left r over.coid.0 (Opens over.coid o.number) meant
    opened-told meant pipes is leaves left_is =
        let leaves = rw is at leaves in
        told-by meant over.coid.0 (Opens over.coid o.number) (given.with_pipe_made (kind_with device) o now) (sym is) (left_is ∙ ap (λ pipes. with_pipes c s.user pipes []) (sym leaves)) (made-apart device o now)

    -- what is there has its pipe already
    pub found-told : (inode : ℕ) → open_existing (seen r s c) over inode wish ≡ Ok (given.open_given over.coid (kind_with device) o now) → left ≡ c → IsTold s new c left r over.coid.0 (Opens over.coid o.number) (open_existing (seen r s c) over inode wish)
    found-told inode is left_is = opened-told _ (pipes_of c s.user) is (existing-keeps (seen r s c) over inode wish) (left_is ∙ given-same c s.user)

    abbrev pub missing : ℕ → Key → Spot
    missing parent key = record { parent = parent; key = key; inode = None }

    -- what is missing is made with no bytes, under a key in its directory
    pub missing-told : (parent : ℕ) (key : Key) (made : New) (block : ℕ) → may_make s.inodes s.user parent wish.flags ≡ Ok (made, block) → open_missing (kind_with device) (seen r s c) over (missing parent key) wish ≡ Ok (given.open_given over.coid (kind_with device) o now)
        → left ≡ with_row_at c s.user made.inode (Some (no_bytes device)) → IsTold s new c left r over.coid.0 (Opens over.coid o.number) (open_missing (kind_with device) (seen r s c) over (missing parent key) wish)
    missing-told parent key made block may is left_is =
        opened-told _ (slice_set (pipes_of c s.user) made.inode (Some (no_bytes device))) is (missing-makes device (seen r s c) over (missing parent key) wish made block may) (left_is ∙ given-row c s.user made.inode (Some (no_bytes device)))

  -- the pipe of an inode that went goes
  pub unlinked-told : (device : Option Device) (meant : Result (Deed Resources) Errno) (gone : Option ℕ) → given.unlink_given (kind_with device) now (Ok gone) ≡ meant → MatchOption gone (left ≡ c) (λ inode. left ≡ with_row_at c s.user inode None) → IsTold s new c left r 0 Keeps meant
  unlinked-told device meant (Some inode) is left_is =
      told-by meant 0 Keeps (record now { pipes = slice_set (pipes_of c s.user) inode None }) (ap (λ state. Ok (reply_alone 0 [] Keeps state)) (sym (gone-apart device inode now)) ∙ is) (left_is ∙ given-row c s.user inode None) refl
  unlinked-told device meant None is left_is = told-by meant 0 Keeps now (ap (λ state. Ok (reply_alone 0 [] Keeps state)) (sym (nothing-gone device now)) ∙ is) (left_is ∙ given-same c s.user) refl
