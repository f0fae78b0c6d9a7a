-- Where the objects of a state stand in the machine's memory (this project's own layout).
use Rattle.std.specs.Prelude.{ℕ, ◌+◌, ◌-◌, Bool, ◌&&◌, nat_lt, nat_le, List, [], ◌∷◌, ◌++◌, length}
use Rattle.std.specs.Prelude.{map, take, slice_get, Option, Some, None, if◌then◌else◌}
use Rattle.fx_config.specs.declared.configuration.Config.{Config}
use Rattle.fx_c_ast.specs.Layout.{known_layouts}
use Rattle.fx_c_ast.specs.StackUse.{slots_size}
use Rattle.fx_shadow.specs.Stacks.{local_address}
use Rattle.fx_sections.specs.declared.placement.Placement.{Placement}
use Rattle.fx_c_mean_model.specs.declared.rights.Rights.{Rights}
use Rattle.fx_c_mean_model.specs.Programs.{Program, Variable, function_at}
use Rattle.fx_c_mean_model.specs.Rights.{home, is_shared, stack_of}
use Rattle.fx_c_mean_model.specs.States.{First, Call, Frame, Caller, Spot, Does, Enter, Stuck}
use Rattle.fx_c_mean_model.specs.Steps.{Thread, Waiting, State, use_of}

-- ---- calls

-- a call that goes on in a thread, with the bytes that its callers take of the stack that its frame stands on
pub record Standing : Type 0 where
  pub thread : ℕ
  pub call : Call
  pub in_use : ℕ

abbrev pub standing : Program → Rights → ℕ → Call → List Frame → Standing
standing p r thread call rest =
    record { thread = thread; call = call; in_use = use_of p r (stack_of p r call.function) rest }

-- the callers that wait, the latest first
abbrev pub callers_in : Program → Rights → ℕ → List Frame → List Standing
callers_in p r thread [] = []
callers_in p r thread (Caller call crosses ∷ rest) =
    standing p r thread call rest ∷ callers_in p r thread rest
callers_in p r thread (_ ∷ rest) = callers_in p r thread rest

-- The calls of a thread at a spot. A thread before its first step has made none, and no program that the checker
-- accepts comes to where no step follows.
abbrev pub calls_at : Program → Rights → ℕ → Call → Spot → List Standing
calls_at p r thread call (Does (Enter f First values) rest) = callers_in p r thread rest
calls_at p r thread call (Does Stuck rest) = []
calls_at p r thread call (Does act rest) =
    standing p r thread call rest ∷ callers_in p r thread rest

abbrev pub calls_of : Program → Rights → ℕ → Thread → List Standing
calls_of p r thread (Waiting spot call) = calls_at p r thread call spot
calls_of p r thread _ = []

-- the calls of the threads that wait, by their numbers from n
abbrev pub calls_from : Program → Rights → ℕ → List Thread → List Standing
calls_from p r n [] = []
calls_from p r n (t ∷ ts) = calls_of p r n t ++ calls_from p r (n + 1) ts

-- all calls that go on in a state
abbrev pub calls_in : Program → Rights → State → List Standing
calls_in p r s = calls_at p r s.current s.call s.spot ++ calls_from p r 0 s.threads

-- ---- addresses

-- whether an object is a parameter or a local of a call
abbrev pub owns : Program → Call → ℕ → Bool
owns p call n =
    nat_le call.base n && nat_lt n (call.base + length (function_at p call.function).variables)

-- how far below the frame pointer the slot of a variable begins: behind it and the slots before it
abbrev pub below_pointer : Program → List Variable → ℕ → ℕ
below_pointer p variables i =
    slots_size (known_layouts p.structs) (map (λ (v : Variable). v.ty) (take (i + 1) variables))

-- where a variable of a call stands, by its number in its function
abbrev pub variable_address : Program → Rights → Config → Standing → ℕ → ℕ
variable_address p r k x i =
    local_address k x.thread (home p r x.call.function) x.in_use
    (below_pointer p (function_at p x.call.function).variables i) (is_shared p x.call.function i)

-- where a parameter or a local of one of these calls stands; an object of none of them stands nowhere
abbrev pub address_among : Program → Rights → Config → List Standing → ℕ → Option ℕ
address_among p r k [] n = None
address_among p r k (x ∷ xs) n =
    if owns p x.call n
    then Some (variable_address p r k x (n - x.call.base))
    else address_among p r k xs n

-- Where an object of a state stands. Globals have the first numbers, and literals those behind them.
abbrev pub address_of : Program → Rights → Config → Placement → State → ℕ → Option ℕ
address_of p r k at s n =
    if nat_lt n (length p.globals) then slice_get at.globals n
    else if nat_lt n (length p.globals + length p.literals)
    then slice_get at.literals (n - length p.globals)
    else address_among p r k (calls_in p r s) n
