-- What a builder holds.
use Rattle.plan_laws.specs.Drafts.{Draft}
use Rattle.plan_laws.specs.declared.builder.DraftBuilder.{DraftBuilder}

abbrev pub draft_of : DraftBuilder → Draft
draft_of b = record { ranks = b.ranks; wires = b.wires; ends = b.ends }
