use Rattle.std.proofs.Common.{◌≡◌, ◌<◌, ◌≤◌, Bool, ℕ, IsTrue, true, false, rules, take, ap, ◌∙◌, take-take}
use Rattle.qx_base.specs.declared.message.TheConstants.MessageBytes.{INLINE}
use Rattle.qx_rows.proofs.reply.Reply.inline.Goals as goal

-- few bytes don't stand in the room
no-room : (in-room : Bool) (len room : ℕ) → (IsTrue in-room → INLINE < room) → (IsTrue in-room → len ≡ room) → len ≤ INLINE → in-room ≡ false
no-room true len room many as-many few = search rules
no-room false len room many as-many few = search rules

pub returns-clause-bytes : goal.returns-clause-bytes
returns-clause-bytes c =
    let len = c.self.inside.len in
    let few = no-room c.self.inside.is_in_room len _ c.self.invariant.many c.self.invariant.as_many c.if-self-gt-INLINE.false in
    c.from_buf_and_len.ensures.bytes ∙ ap (take len) (rw c.unwrap_unchecked-few.ensures.value at c.first_chunk.ensures.cases).same ∙ take-take len 40 c.deref.result.now c.if-self-gt-INLINE.false ∙ ap (take len) c.deref.ensures ∙ (rw few at c.self.view_is)
