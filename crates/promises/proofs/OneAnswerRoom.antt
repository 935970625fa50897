-- No second answer fits the contract of a public function of `room`, and of the two of `history` that it asks, one statement for each; `Post` as in
-- OneAnswerClocks.antt. An arrival answers the same and leaves the same in every table, also behind the counts.
use mathlib.Core.List.{List}
use mathlib.Core.Path.{◌≡◌}
use Prim.Native.Nat.{ℕ}
use Rattle.std.specs.Prelude.{Result}
use Rattle.history.specs.Answers.{count_in}
use Rattle.clocks.proofs.Refusals.{result-once}
use Rattle.history.proofs.event_history.EventHistory.replicas.Reads.{Post as replicas}
use Rattle.history.proofs.event_history.EventHistory.last_of.Reads.{Post as last_of}
use Rattle.room.specs.Passing.{LentArrival}
use Rattle.room.specs.Waiting.{ListsWaiting}
use Rattle.room.proofs.waiting_room.line_at.Reads.{Post as line-at}
use Rattle.room.proofs.waiting_room.WaitingRoom.new.Reads.{Post as new}
use Rattle.room.proofs.waiting_room.WaitingRoom.len.Reads.{Post as len}
use Rattle.room.proofs.waiting_room.WaitingRoom.id_at.Reads.{Post as id-at}
use Rattle.room.proofs.waiting_room.WaitingRoom.waiting.Reads.{Post as waiting}
use Rattle.room.proofs.waiting_room.WaitingRoom.arrive.Reads.{Post as arrive}
use Rattle.clocks.specs.declared.id.EventId.{EventId}
use Rattle.clocks.specs.declared.refusal.Refusal.{Refusal}
use Rattle.history.specs.declared.event_history.EventHistory.{EventHistory}
use Rattle.room.specs.declared.waiting_room.WaitingRoom.{WaitingRoom}
use Rattle.promises.proofs.OneAnswer.{one_answer, Once, OnceWith, OnceLeaving}

-- ---- what is asked

pub replicas-once : Once replicas
replicas-once κs a x y s t p q = one_answer p q

pub last-of-once : Once last_of
last-of-once κs a x y s t p q = one_answer p q

pub line-at-once : Once line-at
line-at-once κs a x y s t p q = one_answer p q

pub room-new-once : Once new
room-new-once κs a x y s t p q = one_answer p q

pub room-len-once : Once len
room-len-once κs a x y s t p q = one_answer p q

pub id-at-once : Once id-at
id-at-once κs a x y s t p q = one_answer p q

slots-once : {ids : List EventId} {out a b : List ℕ} {r r' : Result ℕ Refusal} → ListsWaiting ids out a r → ListsWaiting ids out b r' → (r ≡ r') × (a ≡ b)
slots-once p q = (one_answer p.answer q.answer, one_answer p.content q.content)

pub waiting-once : OnceWith waiting (λ κs s. s.1.1.0.now)
waiting-once κs a x y s t p q = slots-once p q

-- ---- an arrival

-- what is left: the room and the history, the rows of notes and the lines of the report, then the history's table of rows, its versions and its notes
abbrev pub Left : Type 0
Left = WaitingRoom × EventHistory × List (List ℕ) × List (List ℕ) × List ℕ × List ℕ × List ℕ

abbrev left : LentArrival → Left
left a = (
  record { len = a.lent.len },
  a.lent.world.history,
  a.lent.rows,
  a.lent.lines,
  a.lent.world.index,
  a.lent.world.versions,
  a.lent.world.notes,
)

pub arrive-once : OnceLeaving {B = Left} arrive (λ κs s. (
  s.0.now,
  s.1.0.now,
  s.1.1.1.1.0.now,
  s.1.1.1.1.1.0.now,
  s.1.1.1.1.1.1.0.now,
  s.1.1.1.1.1.1.1.0.now,
  s.1.1.1.1.1.1.1.1.0.now,
))
arrive-once κs a x y s t p q =
    let e : ◌≡◌ {A = LentArrival} _ _ = one_answer p q in
    let n : count_in x ≡ count_in y = λ i. (e i).lent.told in
    (result-once x y (λ i. (e i).number) (λ a b f g. rw (f, g) at n), λ i. left (e i))
