use Rattle.std.proofs.Common.{refl}
use Rattle.handles.specs.declared.kind.Kind.TheVariants.{String, Bucket, Buffer}
use Rattle.handles.proofs.any.AnyInterner.intern_many.Goals as goal

pub returns-in-String-self : goal.returns-in-String-self
returns-in-String-self g c = rw c.in-String-self.is (c.intern_each.ensures String refl)

pub returns-in-Bucket-self : goal.returns-in-Bucket-self
returns-in-Bucket-self g c = rw c.in-Bucket-self.is (c.intern_each-in-Bucket-self.ensures Bucket refl)

pub returns-in-Buffer-self : goal.returns-in-Buffer-self
returns-in-Buffer-self g c = rw c.in-Buffer-self.is (c.intern_each-in-Buffer-self.ensures Buffer refl)

pub returns-in-String-self-2 : goal.returns-in-String-self-2
returns-in-String-self-2 g c = rw c.in-String-self-2.is (c.intern_each-in-String-self-2.ensures String refl)

pub returns-in-Bucket-self-2 : goal.returns-in-Bucket-self-2
returns-in-Bucket-self-2 g c = rw c.in-Bucket-self-2.is (c.intern_each-in-Bucket-self-2.ensures Bucket refl)

pub returns-in-Buffer-self-2 : goal.returns-in-Buffer-self-2
returns-in-Buffer-self-2 g c = rw c.in-Buffer-self-2.is (c.intern_each-in-Buffer-self-2.ensures Buffer refl)
