-- `digits::put_many` calls itself on the quotient, which falls by a hundred.
use Rattle.digits.proofs.+put_many.Given as goal

abbrev pub decreases-put_many : goal.decreases-put_many
decreases-put_many l = l.n
