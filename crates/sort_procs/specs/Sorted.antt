-- What is seen of a sort.
use Rattle.proc_shell.specs.Prelude.{OwnState, Spec}
use Rattle.sort_procs.specs.Sorting.{sorting_own}
use Rattle.sort_procs.specs.declared.sort.Sorting.{Sorting}
use Rattle.query_model.specs.declared.processor_spec.Spec.TheVariants as spec

abbrev pub sort_of : Sorting → Spec
sort_of k = spec.Sort k.order

abbrev pub sorting_own_of : Sorting → OwnState
sorting_own_of k = sorting_own k.order.keys k.ended k.ranked k.places.items k.next k.front k.rows
