-- What the engine takes an image to hold, compared with the image's program.
use mathlib.Core.Path.{◌≡◌, refl, sym, ◌∙◌, ap, ap₂}
use mathlib.Core.List.{List, [], ◌∷◌, map}
use Prim.Native.Nat.{ℕ, suc, ◌<◌, ◌≤◌}
use native.Mathlib.Nat.{mod-eq_of_lt}
use native.Mathlib.Omega.{arith}
use lib.ListN.{length, get_or, length-map, get_or-map}
use Rattle.book.specs.declared.Function.{Function}
use Rattle.book.specs.declared.Agent.{Agent}
use Rattle.book.specs.Book.{Program, function_at, node_at, agent_at, no_node, no_agent}
use Rattle.book.specs.Image.{low_node, low_agent, low, program_in, low_program}
use Rattle.book.proofs.Image.{elements_most, functions_most, agents_most}

module _ (m : List ℕ) where
  pub held_elements : (low_program m).E ≡ (program_in m).E
  unfolding low_program
  held_elements = refl

  pub held_permanent : (low_program m).P ≡ low (program_in m).P
  unfolding low_program
  held_permanent = refl

  pub held_functions : length (low_program m).functions ≡ length (program_in m).functions
  unfolding low_program
  held_functions = refl

  pub held_agents : length (low_program m).agents ≡ length (program_in m).agents
  unfolding low_program
  held_agents = length-map (program_in m).agents low_agent

  pub held_function : (f : ℕ) → function_at (low_program m) f ≡ function_at (program_in m) f
  unfolding low_program
  held_function f = refl

  pub held_node : (n : ℕ) → node_at (low_program m) n ≡ low_node (node_at (program_in m) n)
  unfolding low_program
  held_node n = get_or-map low_node (program_in m).nodes n no_node

  pub held_agent : (i : ℕ) → agent_at (low_program m) i ≡ low_agent (agent_at (program_in m) i)
  unfolding low_program
  held_agent i = get_or-map low_agent (program_in m).agents i no_agent

  pub held_agents_most : length (low_program m).agents ≤ 16
  held_agents_most = rw held_agents (agents_most m)

  -- a function read from the image is held as it is
  pub function_held : (f : ℕ) (r : Function) → r ≡ function_at (program_in m) f → r ≡ function_at (low_program m) f
  function_held f r e = e ∙ sym (held_function f)

  pub agent_held : (i : ℕ) (r : Agent) → r ≡ agent_at (program_in m) i → low_agent r ≡ agent_at (low_program m) i
  agent_held i r e = ap low_agent e ∙ sym (held_agent i)

  module _ (r : ℕ) where
    pub elements_held : r ≡ (program_in m).E → (r ≡ (low_program m).E) × (r ≤ 10000)
    elements_held e = (e ∙ sym held_elements, rw e (elements_most m))

    pub functions_held : r ≡ length (program_in m).functions → (r ≡ length (low_program m).functions) × (r ≤ 32)
    functions_held e = (e ∙ sym held_functions, rw e (functions_most m))

    pub agents_held : r ≡ length (program_in m).agents → (r ≡ length (low_program m).agents) × (r ≤ 16)
    agents_held e = (e ∙ sym held_agents, rw e (agents_most m))

-- ---- an image all of whose numbers fit in sixteen bits

pub map_same : {A : Type 0} (f : A → A) (d : A) (xs : List A) → ((i : ℕ) → i < length xs → f (get_or xs i d) ≡ get_or xs i d) → map f xs ≡ xs
map_same f d [] h = refl
map_same f d (x ∷ xs) h = ap₂ ◌∷◌ (h 0 (omega arith)) (map_same f d xs (λ i l. h (suc i) (omega arith)))

module _ (m : List ℕ) (B : Program) (is : program_in m ≡ B) (permanent : B.P < 65536)
    (nodes : (n : ℕ) → n < length B.nodes → low_node (node_at B n) ≡ node_at B n)
    (agents : (i : ℕ) → i < length B.agents → low_agent (agent_at B i) ≡ agent_at B i) where
  pub held_same : low_program m ≡ B
  unfolding low_program
  held_same =
      rw (
        is,
        mod-eq_of_lt permanent,
        map_same low_node no_node B.nodes nodes,
        map_same low_agent no_agent B.agents agents,
      )
