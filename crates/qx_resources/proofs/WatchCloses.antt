-- What a close comes to: the event of its block goes, and only of its pipe may something come to hold.
use Rattle.std.proofs.Common.{◌≡◌, inl, inr, ℕ, ◌≤◌, Bool, not, ◌==◌, refl, sym, ap, ◌∙◌, arith, Option, Some, None, ◌≢◌, List, ◌∷◌, [], count_by, slice_set}
use Rattle.std.proofs.lemmas.Bool.{false≢true, eq-eqb, cases_Bool, cond_both}
use Rattle.std.specs.List.{AllByRecursion}
use Rattle.std.specs.Prelude.{Ok, ◌-◌, filter, if◌then◌else◌}
use Rattle.qx_base.specs.declared.errno.Errno.TheVariants.{EBADF}
use Rattle.qx_types.specs.declared.flags.OFlags.{OFlags}
use Rattle.qx_machine.specs.declared.rows.Effect.TheVariants.{Closes}
use Rattle.qx_machine.specs.declared.rows.Event.{Event}
use Rattle.qx_machine.specs.declared.rows.Kind.{Kind}
use Rattle.qx_machine.specs.declared.rows.Kind.TheVariants.{Directory, File}
use Rattle.qx_machine.specs.declared.rows.Ocb.{Ocb}
use Rattle.qx_machine.specs.declared.rows.Opened.{Opened}
use Rattle.qx_machine.specs.declared.rows.WaitingCall.{WaitingCall}
use Rattle.qx_machine.specs.Defaults.{close_dup, close_last, close_ocb, free_block, is_own, own_block, pipe_in, without_block, without_unused}
use Rattle.qx_machine.specs.Events.{disarmed, is_on}
use Rattle.qx_machine.specs.Functions.{Deed, reply_alone}
use Rattle.qx_machine.specs.Inodes.{is_open, reads, writes, Inodes, free_inode, is_shared, is_unused, without_use}
use Rattle.qx_isolation.specs.Judgements.{found, need}
use Rattle.qx_machine.specs.PipeManager.{released}
use Rattle.qx_machine.specs.Pipes.{Pipe}
use Rattle.qx_machine.specs.Resources.{Resources, without_content}
use Rattle.qx_isolation.specs.Rows.{row_at}
use Rattle.qx_isolation.proofs.Places.{row_at-set_other}
use Rattle.qx_attr.proofs.CountLemmas.{count-free, counts_other}
use Rattle.qx_attr.specs.inner.Counts.{one}
use Rattle.qx_resources.proofs.WatchDeeds.{unarmed, IsSettledAt, at-block, moved-settled}
use Rattle.qx_resources.proofs.WatchFacts.{Stays, watch-settled, OthersAreStill, all-weaker}
use Rattle.qx_machine.proofs.Gives.{Gives, found-row, gives_done, gives_if, gives_on, gives_by}
use Rattle.qx_resources.proofs.WatchQuiet.{inode_of, pipe-falls}
use Rattle.qx_machine.specs.declared.rows.Kind.TheVariants as kind

-- ---- a block goes

-- all else stays, but perhaps what is in the block's inode
pub record IsClosed (r : Resources) (number inode : ℕ) (s : Resources) : Type 0 where
  pub blocks : s.inodes.blocks ≡ slice_set r.inodes.blocks number None
  pub made : s.inodes.made ≡ filter (λ other. not (other == number)) r.inodes.made
  pub pipes : (other : ℕ) → other ≢ inode → row_at s.pipes other ≡ row_at r.pipes other
  pub events : s.events ≡ r.events

released-closed : (r : Resources) (number inode moment : ℕ) (row : Option (Pipe WaitingCall)) → IsClosed r number inode (released (without_block number r) number inode moment row).state
released-closed r number inode moment None = record { blocks = refl; made = refl; pipes = λ other apart. refl; events = refl }
released-closed r number inode moment (Some pipe) = record { blocks = refl; made = refl; pipes = λ other apart. row_at-set_other r.pipes inode other _ apart; events = refl }

pub free-blocks : (inodes : Inodes) (inode : ℕ) → (free_inode inodes inode).blocks ≡ inodes.blocks
free-blocks inodes inode = cond_both (is_unused inodes inode (row_at inodes.attributes inode)) _ inodes (λ (now : Inodes). now.blocks ≡ inodes.blocks) (λ is. refl) (λ is_not. refl)

free-made : (inodes : Inodes) (inode : ℕ) → (free_inode inodes inode).made ≡ inodes.made
free-made inodes inode = cond_both (is_unused inodes inode (row_at inodes.attributes inode)) _ inodes (λ (now : Inodes). now.made ≡ inodes.made) (λ is. refl) (λ is_not. refl)

-- with the pipe
row-closed : (r : Resources) (number inode : ℕ) (s : Resources) → IsClosed r number inode s → IsClosed r number inode (record s { inodes = free_inode s.inodes inode; pipes = slice_set s.pipes inode None })
row-closed r number inode s h = record { blocks = free-blocks s.inodes inode ∙ h.blocks; made = free-made s.inodes inode ∙ h.made; pipes = λ other apart. row_at-set_other s.pipes inode other None apart ∙ h.pipes other apart; events = h.events }

content-closed : (own : Kind) (r : Resources) (number inode : ℕ) (s : Resources) → IsClosed r number inode s → IsClosed r number inode (without_content own inode (record s { inodes = free_inode s.inodes inode }))
content-closed File r number inode s h = record { blocks = free-blocks s.inodes inode ∙ h.blocks; made = free-made s.inodes inode ∙ h.made; pipes = h.pipes; events = h.events }
content-closed Directory r number inode s h = record { blocks = free-blocks s.inodes inode ∙ h.blocks; made = free-made s.inodes inode ∙ h.made; pipes = h.pipes; events = h.events }
content-closed kind.Pipe r number inode s h = row-closed r number inode s h
content-closed (kind.Device device) r number inode s h = row-closed r number inode s h

unused-closed : (own : Kind) (r : Resources) (number inode : ℕ) (s : Resources) → IsClosed r number inode s → IsClosed r number inode (without_unused own inode s)
unused-closed own r number inode s h = cond_both (is_unused s.inodes inode (row_at s.inodes.attributes inode)) _ s (IsClosed r number inode) (λ is. content-closed own r number inode s h) (λ is_not. h)

own-gives : (inodes : Inodes) (number : ℕ) (own : Kind) → Gives (λ (block : Ocb). row_at inodes.blocks number ≡ Some block) (own_block inodes number own)
own-gives inodes number own =
    gives_on _ (found (row_at inodes.blocks number) EBADF) _ (λ block is.
    gives_on _ (found (row_at inodes.attributes block.inode) EBADF) _ (λ attribute there.
    gives_on _ (need (is_own own attribute.kind) EBADF) _ (λ mine is_mine. gives_done _ block (found-row _ _ block is))))

-- a block goes, and its event with it
pub record IsClosedAt (r : Resources) (number : ℕ) (s : Resources) : Type 0 where
  pub block : Ocb
  pub was : row_at r.inodes.blocks number ≡ Some block
  pub closed : IsClosed r number block.inode s

pub freed-gives : (own : Kind) (r : Resources) (number moment : ℕ) → Gives (λ (deed : Deed Resources). IsClosedAt r number deed.state) (free_block own r number moment)
freed-gives own r number moment =
    gives_by _ _ (own_block r.inodes number own) _ (own-gives r.inodes number own) (λ block was.
    gives_done _ _ (record { block = block; was = was; closed = unused-closed own r number block.inode _ (released-closed r number block.inode moment (pipe_in own r block.inode)) }))

-- what is armed still is of other blocks
disarmed-others : (number : ℕ) (events : List Event) → AllByRecursion (λ (event : Event). event.block ≢ number) (filter (λ event. not (is_on number event)) events)
disarmed-others number [] = tt
disarmed-others number (event ∷ events) = elim (cases_Bool (event.block == number)) [
  | inl is ↦ rw is (disarmed-others number events)
  | inr is_not ↦ rw is_not ((λ same. false≢true (sym is_not ∙ eq-eqb event.block number same)), disarmed-others number events)
]

module _ (r s : Resources) (number : ℕ) (h : IsClosedAt r number s) where
  abbrev after : Resources
  after = record s { events = disarmed number s.events }

  closed-row : (other : ℕ) → other ≢ number → inode_of (row_at r.inodes.blocks other) ≡ inode_of (row_at s.inodes.blocks other)
  closed-row other apart = ap inode_of (sym (row_at-set_other r.inodes.blocks number other None apart)) ∙ ap (λ (rows : List (Option Ocb)). inode_of (row_at rows other)) (sym h.closed.blocks)

  closed-counts : (which : OFlags → Bool) (inode : ℕ) → inode ≢ h.block.inode → count_by (is_open which inode) r.inodes.blocks ≤ count_by (is_open which inode) s.inodes.blocks
  closed-counts which inode apart =
      let freed = count-free (is_open which inode) refl r.inodes.blocks number h.block h.was in
      let other = ap one (counts_other which h.block inode apart) in
      let same = ap (count_by (is_open which inode)) h.closed.blocks in
      omega (arith, freed, other, same)

  closed-others : OthersAreStill r after h.block.inode
  closed-others inode apart = pipe-falls r after inode (closed-counts reads inode apart) (closed-counts writes inode apart) (h.closed.pipes inode apart)

  closed-settled : IsSettledAt r number after
  closed-settled =
      at-block r after number h.block h.was
      (watch-settled r after h.block.inode closed-others
      (all-weaker (λ (event : Event). event.block ≢ number) (Stays r after) after.events.armed (λ event apart. closed-row event.block apart) (disarmed-others number s.events.armed))
      (λ none. ap (filter (λ event. not (is_on number event))) (unarmed r s h.closed.events none)))

ocb-settled : (own : Kind) (r : Resources) (number moment : ℕ) → Gives (λ (deed : Deed Resources). IsSettledAt r number deed.state) (close_ocb own r number moment)
ocb-settled own r number moment = gives_by _ _ (free_block own r number moment) _ (freed-gives own r number moment) (λ deed h. gives_done _ _ (closed-settled r deed.state number h))

last-settled : (own : Kind) (r : Resources) (over : Opened) → Gives (λ (deed : Deed Resources). IsSettledAt r over.number deed.state) (close_last own r over)
last-settled own r over = gives_by _ _ (close_ocb own r over.number over.moment) _ (ocb-settled own r over.number over.moment) (λ deed settled. gives_done _ _ settled)

-- a close of what other connections have too leaves it open
pub close_dup-settled : (own : Kind) (r : Resources) (over : Opened) → Gives (λ (deed : Deed Resources). IsSettledAt r over.number deed.state) (close_dup own r over)
close_dup-settled own r over = by (row_at r.inodes.blocks over.number) refl
  where
    by : (row : Option Ocb) → row_at r.inodes.blocks over.number ≡ row → Gives (λ (deed : Deed Resources). IsSettledAt r over.number deed.state)
        (if is_shared row then Ok (reply_alone 0 [] (Closes over.coid) (record r { inodes = without_use r.inodes over.number })) else close_last own r over)
    by None none = last-settled own r over
    by (Some block) is =
        gives_if _ (is_shared (Some block)) _ _
        (gives_done _ _ (moved-settled r _ over.number (λ (block : Ocb). record block { uses = block.uses - 1 }) (record { inode = λ block. refl; flags = λ block. refl }) block is refl refl refl))
        (last-settled own r over)
