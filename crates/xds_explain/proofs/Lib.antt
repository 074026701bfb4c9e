mod BestOnes
