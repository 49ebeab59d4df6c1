-- The effect of an event on the shown part of its lane.
use Rattle.std.specs.Prelude.{◌≡◌, ◌≢◌, [], ◌∷◌, ◌++◌, Some}
use Rattle.world_terms.specs.Lanes.{Shown, shown}
use Rattle.world_terms.specs.declared.event.LaneState.TheVariants as state
use Rattle.world_terms.specs.declared.event.Event.{Event}
use Rattle.world_terms.specs.declared.event.Event.TheVariants as event
use Rattle.world_terms.specs.declared.event.EventAnswer.{EventAnswer}
use Rattle.world_terms.specs.declared.event.EventAnswer.TheVariants as answer

-- from `x` to `y`, with this answer; a decision changes nothing that is shown, and is not an event
-- of one lane
abbrev pub ShownStep : Event → EventAnswer → Shown → Shown → Type 0
ShownStep (event.Sit i) answer.Done x y =
    (x.state ≡ state.Free) × (y ≡ shown state.Worker x.ask x.posted x.taken)
ShownStep (event.Asked i a) answer.Done x y =
    (x.state ≡ state.Worker) × (y ≡ shown state.Asked (Some a) x.posted x.taken)
ShownStep (event.Collect i) answer.Got x y =
    (x.state ≡ state.Asked) × (y ≡ shown state.Round x.ask x.posted x.taken)
ShownStep (event.Collect i) answer.Missed x y = (x.state ≢ state.Asked) × (y ≡ x)
ShownStep (event.Post i) (answer.Posted n) x y =
    (x.state ≡ state.Round) × (y ≡ shown state.Granted x.ask (x.posted ++ n ∷ []) x.taken)
ShownStep (event.Taken i) (answer.Taken n) x y =
    (x.state ≡ state.Granted) × (x.posted ≡ x.taken ++ n ∷ [])
    × (y ≡ shown state.Worker x.ask x.posted (x.taken ++ n ∷ []))
ShownStep (event.Moved i n) answer.Done x y = y ≡ x
ShownStep (event.Rise i) answer.Done x y =
    (x.state ≡ state.Worker) × (y ≡ shown state.Free x.ask x.posted x.taken)
ShownStep e a x y = ⊥
