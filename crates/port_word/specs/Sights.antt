-- How an executor brings a port up to date, and when it may.
use Rattle.std.specs.Prelude.{◌&&◌, ◌<◌, ◌≡◌}
use Rattle.port_word.specs.Prelude.{Bool, Flags, Input, None, Option, Output, Port, Some, Table, [], false, is_some, not, true}
use Rattle.port_word.specs.Pictures.{Picture, input_at, output_at, in_count, out_count, with_input, with_output}

-- the port is one of the node's
abbrev pub HasPort : Picture → Port → Type 0
HasPort p (Input i) = i < in_count p
HasPort p (Output o) = o < out_count p

-- the flags of a port in the picture
abbrev pub port_flags : Picture → Port → Flags
port_flags p (Input i) = (input_at p i).flags
port_flags p (Output o) = output_at p o

-- the chunk that the picture has at a port
abbrev pub port_chunk : Picture → Port → Option Table
port_chunk p (Input i) = (input_at p i).chunk
port_chunk p (Output o) = None

-- the bits that only this node changes are the same
abbrev pub OwnBitsAgree : Port → Flags → Flags → Type 0
OwnBitsAgree (Input i) f g = (g.needed ≡ f.needed) × (g.fin_in ≡ f.fin_in)
OwnBitsAgree (Output o) f g = g.fin_out ≡ f.fin_out

-- whether a chunk comes with these flags: data lies at an open input whose chunk the picture hasn't
abbrev pub is_chunk_due : Picture → Port → Flags → Bool
is_chunk_due p (Input i) g = g.has_data && (not g.fin_in && not (is_some (input_at p i).chunk))
is_chunk_due p (Output o) g = false

-- an input with `fin_out` and no data stays without data
abbrev pub StaysEmpty : Port → Flags → Flags → Type 0
StaysEmpty (Input i) f g = f.fin_out ≡ true → f.has_data ≡ false → g.has_data ≡ false
StaysEmpty (Output o) f g = Unit {0}

-- the port may be shown with these flags and this chunk
pub record MaySee (p : Picture) (port : Port) (g : Flags) (chunk : Option Table) : Type 0 where
  pub ours : HasPort p port
  pub taken : p.actions ≡ []
  pub fin_out : (port_flags p port).fin_out ≡ true → g.fin_out ≡ true
  pub fin_in : (port_flags p port).fin_in ≡ true → g.fin_in ≡ true
  pub own_bits : OwnBitsAgree port (port_flags p port) g
  pub stays_empty : StaysEmpty port (port_flags p port) g
  pub keeps_chunk : is_some (port_chunk p port) ≡ true → g.has_data ≡ true
  pub chunk_due : is_some chunk ≡ is_chunk_due p port g

-- the chunk that came, or else the one that is there
abbrev pub seen_chunk : Option Table → Option Table → Option Table
seen_chunk None c = c
seen_chunk (Some d) c = Some d

abbrev pub after_see : Picture → Port → Flags → Option Table → Picture
after_see p (Input i) g chunk =
    with_input p i (record { flags = g; chunk = seen_chunk chunk (input_at p i).chunk })
after_see p (Output o) g chunk = with_output p o g
