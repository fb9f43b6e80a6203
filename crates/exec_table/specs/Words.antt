-- The words of the table: what each says, and where it stands.
use Rattle.std.specs.Prelude.{ℕ, ◌+◌, ◌*◌, ◌/◌, ◌%◌, ◌^◌, ◌==◌, cond, List, ◌∷◌, ◌++◌, map, length, Option, Some, None, slice_index_or}
use Rattle.core_laws.specs.declared.types.Step.TheVariants as step
use Rattle.exec_table.specs.CoreNames.{CoreState, Flags, NodeState, PortState, Sizes, Step, Wire, port_at, reserved_edge_count, peer_in}

abbrev pub flags_word : Flags → ℕ
flags_word f = cond f.needed 1 0 + (cond f.has_data 2 0 + (cond f.fin_out 4 0 + cond f.fin_in 8 0))

-- the consuming node and its input, the producing node and its output, and that there is a wire
abbrev pub wire_word : Option Wire → ℕ
wire_word None = 0
wire_word (Some w) =
    w.to + (w.input * 2 ^ 8 + (w.from * 2 ^ 13 + (w.out * 2 ^ 21 + 2 ^ 25)))

abbrev pub wire_of : ℕ → Wire
wire_of n = record {
  from = n / 2 ^ 13 % 2 ^ 8;
  out = n / 2 ^ 21 % 2 ^ 4;
  to = n % 2 ^ 8;
  input = n / 2 ^ 8 % 2 ^ 5;
}

abbrev pub wire_in : ℕ → Option Wire
wire_in n = cond (n == 0) None (Some (wire_of n))

abbrev pub first_word : CoreState → ℕ
first_word c = c.pending + cond c.stopped (2 ^ 63) 0

abbrev pub node_words : CoreState → List ℕ
node_words c = map (λ (nd : NodeState). nd.word) c.nodes

abbrev pub wire_words : CoreState → List ℕ
wire_words c = map (λ (p : PortState). wire_word p.wire) c.ports

abbrev pub port_words : CoreState → List ℕ
port_words c = map (λ (p : PortState). flags_word p.flags) c.ports

-- word 0, the node words, the wire words and the port words, in order of their numbers
abbrev pub words_of : CoreState → List ℕ
words_of c = first_word c ∷ (node_words c ++ (wire_words c ++ port_words c))

abbrev pub edge_count : Sizes → ℕ
edge_count s = length s.wires + reserved_edge_count s.reserves

-- ---- places

abbrev pub node_place : ℕ → ℕ
node_place n = n + 1

abbrev pub wire_place : Sizes → ℕ → ℕ
wire_place s e = (s.nodes + e) + 1

abbrev pub port_place : Sizes → ℕ → ℕ
port_place s e = (s.nodes + (edge_count s + e)) + 1

-- the word that a step of the node n reads
abbrev pub place : CoreState → ℕ → Step → ℕ
place c n (step.Look e) = port_place c.sizes e
place c n (step.Want e) = port_place c.sizes e
place c n (step.Unwant e) = port_place c.sizes e
place c n (step.Push e x) = port_place c.sizes e
place c n (step.Pull e) = port_place c.sizes e
place c n (step.Finish e) = port_place c.sizes e
place c n (step.ClosePort e) = port_place c.sizes e
place c n (step.Mark e) = node_place (peer_in n (port_at c e).wire)
place c n (step.Wire e w) = wire_place c.sizes e
place c n (step.Wired e) = wire_place c.sizes e
place c n step.TokenIn = 0
place c n step.TokenOut = 0
place c n step.Stop = 0
place c n step.See = 0
place c n s = node_place n

-- what the step finds there
abbrev pub found_by : CoreState → ℕ → Step → ℕ
found_by c n s = slice_index_or (words_of c) (place c n s) 0
