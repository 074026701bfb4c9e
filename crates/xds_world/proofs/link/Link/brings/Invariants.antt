use Rattle.std.proofs.Common.{◌≡◌}
use Rattle.std.specs.List.{list_any}
use Rattle.std.specs.VecDeque.Iter.{deque_iter_rest}
use Rattle.xds_resource.specs.Types.{is_same_type}
use Rattle.xds_message.specs.DraftTexts.{kind_of}
use Rattle.xds_world.proofs.link.Link.brings.Given as goal

-- what is left decides
abbrev pub invariant-loop-draft : goal.invariant-loop-draft
invariant-loop-draft l = list_any (λ d. is_same_type (kind_of d) l.kind) l.self.down ≡ list_any (λ d. is_same_type (kind_of d) l.kind) (deque_iter_rest l.draft-iterator)
