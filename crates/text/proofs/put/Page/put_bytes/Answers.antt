use Rattle.std.proofs.Common.{◌≡◌, ℕ, ◌+◌, ◌-◌, ◌≤◌, List, length, take, drop, append_assoc, arith}
use borrow.Rule.Slice.PartMut.{put_mid, post_of, Post-is}
use Rattle.text.specs.Put.{page, put_at}
use Rattle.text.specs.PutLaws.{put_fits, put_full}
use Rattle.text.proofs.put.Page.put_bytes.Goals as goal

-- the text in the place of as many bytes as it has
put_whole : (out : List ℕ) (at next : ℕ) (s end : List ℕ) → next ≡ at + length s → next ≤ length out → end ≡ s
    → page (put_mid at (next - at) out end) next ≡ put_at out at s
put_whole out at next s end e h same =
    let post : post_of at (at + length s - at) out ≡ drop (at + length s) out = Post-is at (at + length s) out (omega arith) in
    rw (e, same, post, ← append_assoc (take at out) s (drop (at + length s) out)) (put_fits out at s (omega arith))

pub returns-in_default-clause-put : goal.returns-in_default-clause-put
returns-in_default-clause-put c = put_full _ _ _ (omega (arith, c.in_default.ensures))

pub returns-then-end-self-clause-put : goal.returns-then-end-self-clause-put
returns-then-end-self-clause-put c =
    put_whole _ _ _ c.args.s.now _ c.in-Some.ensures.1 c.if-end-self.true c.copy_from_slice.ensures.after

pub returns-else-end-self-clause-put : goal.returns-else-end-self-clause-put
returns-else-end-self-clause-put c = put_full _ _ _ (omega (arith, c.in-Some.ensures))
