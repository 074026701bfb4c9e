-- That the order of writes is total, which the impl of `Ord` names as its law. This project's own.
--     write_cmp_total   the order of writes is total
use Rattle.std.specs.Cmp.{IsTotalOrder, then_total, on_total, nat_cmp_total}
use Rattle.std.specs.Cmp.Lexicographic.{lists_total, options_total, nat_list_cmp_total}
use Rattle.xds_resource.specs.Writes.{write_cmp}

-- rule: greatest-write
pub write_cmp_total : IsTotalOrder write_cmp
write_cmp_total =
    then_total (on_total (λ w. w.counter) nat_cmp_total)
    (then_total (on_total (λ w. w.writer) nat_cmp_total)
    (then_total (on_total (λ w. w.body) (options_total nat_list_cmp_total)) (then_total (on_total (λ w. w.groups) (lists_total nat_list_cmp_total)) (on_total (λ w. w.name) nat_list_cmp_total))))
