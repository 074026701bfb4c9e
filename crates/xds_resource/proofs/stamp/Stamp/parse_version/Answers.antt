-- A version text is cut at its only dash, and each of the two numbers is read back from its text.
use Rattle.std.proofs.Common.{arith, ◌≡◌, ℕ, ◌≤◌, ◌<◌, ◌⊎◌}
use Rattle.xds_resource.specs.Stamps.{IsStamp}
use Rattle.xds_resource.proofs.VersionTexts.{split-version_text}
use Rattle.xds_resource.proofs.stamp.Stamp.parse_version.Goals as goal

pub returns-in_default-clause-reads_back : goal.returns-in_default-clause-reads_back
returns-in_default-clause-reads_back c = λ counter writer stamp e.
    let split = split-version_text counter writer c.args.text.now _ stamp e c.split_once.ensures.cases in
    rw c.in_default.is at split

pub returns-in_default-2-clause-reads_back : goal.returns-in_default-2-clause-reads_back
returns-in_default-2-clause-reads_back c = λ counter writer stamp e.
    let split = split-version_text counter writer c.args.text.now _ stamp e c.split_once.ensures.cases in
    let parts = rw c.in-Some.is at split in
    let reads_writer = c.writer_of.ensures.all writer (omega (arith, stamp.writer_to)) parts.1 in
    let missing = c.in_default-2.is-1 in
    cc

pub returns-in_default-2-2-clause-reads_back : goal.returns-in_default-2-2-clause-reads_back
returns-in_default-2-2-clause-reads_back c = λ counter writer stamp e.
    let split = split-version_text counter writer c.args.text.now _ stamp e c.split_once.ensures.cases in
    let parts = rw c.in-Some.is at split in
    let reads_counter = c.decimal_number.ensures.all counter (omega (arith, stamp.counter_to)) parts.0 in
    let missing = c.in_default-2.is-0 in
    cc

out_of_range : (counter writer c w : ℕ) → IsStamp counter writer → c ≡ counter → w ≡ writer
    → (c ≡ 0) ⊎ (((c ≡ 0 → ⊥) × (9223372036854775807 < c)) ⊎ ((c ≡ 0 → ⊥) × (c ≤ 9223372036854775807) × (w ≡ 0))) → ⊥
out_of_range counter writer c w stamp same_counter same_writer either = omega (arith, stamp.counter_from, stamp.counter_to, stamp.writer_from)

pub returns-then-counter-eq0-clause-reads_back : goal.returns-then-counter-eq0-clause-reads_back
returns-then-counter-eq0-clause-reads_back c = λ counter writer stamp e.
    let split = split-version_text counter writer c.args.text.now _ stamp e c.split_once.ensures.cases in
    let parts = rw c.in-Some.is at split in
    let reads_counter = c.decimal_number.ensures.all counter (omega (arith, stamp.counter_to)) parts.0 in
    let reads_writer = c.writer_of.ensures.all writer (omega (arith, stamp.writer_to)) parts.1 in
    let was_counter = c.in-Some-Some.is-0 in
    let was_writer = c.in-Some-Some.is-1 in
    out_of_range counter writer c.in-Some-Some.counter c.in-Some-Some.writer stamp (cc) (cc) c.then-counter-eq0.either

pub returns-clause-reads_back : goal.returns-clause-reads_back
returns-clause-reads_back c = λ counter writer stamp e.
    let split = split-version_text counter writer c.args.text.now _ stamp e c.split_once.ensures.cases in
    let parts = rw c.in-Some.is at split in
    let reads_counter = c.decimal_number.ensures.all counter (omega (arith, stamp.counter_to)) parts.0 in
    let reads_writer = c.writer_of.ensures.all writer (omega (arith, stamp.writer_to)) parts.1 in
    let was_counter = c.in-Some-Some.is-0 in
    let was_writer = c.in-Some-Some.is-1 in
    (cc, cc)
