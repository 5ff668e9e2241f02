-- Decisions: those of the cards that a list of events ends are the ones that their services get, but for reason 3. Assumes nothing.
use Prim.Native.Nat.{ℕ}
use mathlib.Core.Path.{◌≡◌, refl, sym, subst}
use mathlib.Core.Bool.{Bool, true, false, cond}
use mathlib.Core.List.{List, [], ◌∷◌, ◌++◌}
use native.Mathlib.Omega.{arith}
use borrow.Author.Tests.{eqb-true, eqb-false}
use lib.Dec.{eqb}
use Rattle.record.specs.declared.record.Record.{Record}
use Rattle.record.specs.declared.steps.Step.{Step}
use Rattle.phases.specs.declared.answer.Answer.TheVariants.{Done}
use Rattle.phases.specs.declared.table.StepRow.{StepRow}
use Rattle.phases.specs.Answers.{reason_none, reason_busy}
use Rattle.record.specs.Run.{Reply, reply_by, row_of}
use Rattle.run_events.specs.Events.{What, Grant, Denial, Passage, Lapse, RunEvent}
use Rattle.run_events.specs.Told.{Standing, Free, CardOf, GrantOf, Ended}
use Rattle.card_by_card.specs.Serving.{served_as, service_of}
use Rattle.card_by_card.specs.Served.{Acts, then, Reads, denying, passing, lapsing, decide_of, events_at, decisions_at, granted_reply, grant_open, Alike, same, unused}
use Rattle.card_by_card.proofs.Serial.{Serves}
use Rattle.card_by_card.proofs.Runs.{ServesAll, none, more}
use Rattle.card_by_card.proofs.Cards.{decision_of, decision_ends}

pub alike_both : {xs ys us vs : List Reply} → Alike xs ys → Alike us vs → Alike (xs ++ us) (ys ++ vs)
alike_both Alike.end behind = behind
alike_both (same other on) behind = same other (alike_both on behind)
alike_both (unused on) behind = unused (alike_both on behind)

-- a grant is granted
granted_same : {xs ys : List Reply} → Alike xs ys → Alike (granted_reply ∷ xs) (granted_reply ∷ ys)
granted_same on = same (λ (e : reason_none ≡ reason_busy). omega arith) on

-- an open grant is the same on both sides
pub alike_open : (s : Standing) → Alike (grant_open s) (grant_open s)
unfolding grant_open
alike_open Free = Alike.end
alike_open (CardOf person) = Alike.end
alike_open (GrantOf person) = granted_same Alike.end
alike_open Ended = Alike.end

-- an event's decision and that of what it is served as
alike_event : (what : What) {xs ys : List Reply} → Alike xs ys → Alike (decision_of what ++ xs) (decision_of (served_as what) ++ ys)
unfolding decision_of served_as
alike_event Grant on = on
alike_event (Denial why held) {xs} {ys} on = go (eqb why reason_busy) refl
  where
    go : (b : Bool) → eqb why reason_busy ≡ b → Alike (decision_of (Denial why held) ++ xs) (decision_of (cond b Lapse (Denial why held)) ++ ys)
    go true e = rw (eqb-true why reason_busy e) (unused on)
    go false e = same (eqb-false why reason_busy e) on
alike_event Passage on = granted_same on
alike_event Lapse on = granted_same on

-- what a `decide` that is done answers is the decision
answers : (z : Step) (what : What) → z.answer ≡ Done → Reads z.phase z.reason z.held what → decision_of what ≡ reply_by z ∷ []
unfolding decision_of
answers z what done (denying is) = rw (done, is)
answers z what done (passing is no_reason no_door) = rw (done, is, no_reason, no_door)
answers z what done (lapsing is no_reason no_door) = rw (done, is, no_reason, no_door)

second_acts : {r : Record} {a b : StepRow} {rows : List StepRow} → Acts r (a ∷ b ∷ rows) → (row_of (row_of r a).next b).answer ≡ Done
second_acts (then _ (then done _)) = done

decide_acts : {x y : Record} {e : RunEvent} → Serves x e y → (decide_of x e).answer ≡ Done
unfolding service_of
decide_acts s = second_acts s.leads.acts

-- events served one after the other, at one door
pub alike_served : (d : ℕ) {x y : Record} {es : List RunEvent} → ServesAll x es y → Alike (events_at decision_ends d es) (decisions_at d x es)
unfolding events_at decisions_at
alike_served d none = Alike.end
alike_served d {x} (more {y} {e} {es} s on) =
    go (eqb d e.at) (subst (λ (z : Record). Alike (events_at decision_ends d es) (decisions_at d z es)) (sym s.leads.last) (alike_served d on))
  where
    go : {xs ys : List Reply} (b : Bool) → Alike xs ys → Alike (cond b (decision_of e.what) [] ++ xs) (cond b (reply_by (decide_of x e) ∷ []) [] ++ ys)
    go {xs} {ys} true on =
        subst (λ (told : List Reply). Alike (decision_of e.what ++ xs) (told ++ ys)) (answers (decide_of x e) (served_as e.what) (decide_acts s) s.decides) (alike_event e.what on)
    go false on = on
